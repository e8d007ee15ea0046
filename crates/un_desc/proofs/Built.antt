-- What is built is read as the function of the parameters.
use Rattle.std.proofs.Common.{◌≡◌, ℕ, ◌%◌, ◌<◌, ◌≤◌, [], ◌∷◌, IsTrue, Result, Ok, refl, ap, ◌∙◌, arith}
use Rattle.std.proofs.lemmas.Bool.Decides.{nat_tests}
use Rattle.std.proofs.Math.Nat.{mod-eq_of_lt}
use Rattle.std.specs.Int.{bytes_low_first}
use Rattle.un_facts.specs.Lists.{is_one_of}
use Rattle.byteorder.specs.Endian.{little_from}
use Rattle.byteorder.specs.Numbers.{little_number-reads_back}
use Rattle.un_frame.specs.Bytes.{number_at, number_bytes}
use Rattle.un_frame.specs.Params.{AreInRange}
use Rattle.un_frame.specs.declared.params.Params.{Params}
use Rattle.un_frame.specs.declared.params.Class.{Class}
use Rattle.un_frame.specs.declared.params.Class.TheVariants.{Ecm, Eem, Ncm16, Ncm32, Rndis}
use Rattle.un_desc.specs.declared.function.DescFault.{DescFault}
use Rattle.un_desc.specs.declared.function.FunctionKind.{FunctionKind}
use Rattle.un_desc.specs.declared.function.FunctionKind.TheVariants as kinds
use Rattle.un_desc.specs.declared.function.Function.{Function}
use Rattle.un_desc.specs.Configuration.{IsDescribed, configuration, configuration_as, ecm_configuration, eem_configuration, ncm_configuration, function, function_as, BULK_IN, BULK_OUT}
use Rattle.un_desc.specs.Walk.{least_length, descriptor_of, length_at, walk_most, walk_from}
use Rattle.un_desc.specs.Reading.{first, own, setting_of, described, function_of}

-- a packet size is one of eight
pub packet_small : (x : ℕ) → IsTrue (is_one_of x (8 ∷ 16 ∷ 32 ∷ 64 ∷ 128 ∷ 256 ∷ 512 ∷ 1024 ∷ [])) → x ≤ 1024
packet_small x h = grind (arith, nat_tests)

-- the number in the two bytes of a number
abbrev pub again : ℕ → ℕ
again x = little_from 0 2 (bytes_low_first 0 2 x)

pub again_same : (x : ℕ) → x < 65536 → again x ≡ x
again_same x h = little_number-reads_back 2 x [] h

abbrev described_as : FunctionKind → ℕ → ℕ → ℕ → ℕ → ℕ → Result Function DescFault
described_as kind segment capabilities interface setting packet = Ok (record {
  kind = kind;
  control = 0;
  segment = segment;
  capabilities = capabilities;
  interface = interface;
  setting = setting;
  bulk_in = BULK_IN;
  bulk_out = BULK_OUT;
  packet = packet;
})

ecm_built : (segment packet : ℕ) → function_of (ecm_configuration segment packet) ≡ described_as kinds.Ecm (again segment) 0 1 1 (again packet % 2048)
unfolding number_at number_bytes least_length descriptor_of length_at walk_most walk_from first own setting_of described function_of
ecm_built segment packet = refl

ncm_built : (segment packet : ℕ) → function_of (ncm_configuration segment packet) ≡ described_as kinds.Ncm (again segment) 9 1 1 (again packet % 2048)
unfolding number_at number_bytes least_length descriptor_of length_at walk_most walk_from first own setting_of described function_of
ncm_built segment packet = refl

eem_built : (packet : ℕ) → function_of (eem_configuration packet) ≡ described_as kinds.Eem 0 0 0 0 (again packet % 2048)
unfolding number_at number_bytes least_length descriptor_of length_at walk_most walk_from first own setting_of described function_of
eem_built packet = refl

as_said : (kind : FunctionKind) (segment capabilities interface setting packet : ℕ) → segment < 65536 → packet ≤ 1024 → described_as kind (again segment) capabilities interface setting (again packet % 2048) ≡ described_as kind segment capabilities interface setting packet
as_said kind segment capabilities interface setting packet s p =
    let one : again segment ≡ segment = again_same segment s in
    let two : again packet ≡ packet = again_same packet (omega arith) in
    let three : packet % 2048 ≡ packet = mod-eq_of_lt (omega arith) in
    ap (λ (x : ℕ). described_as kind x capabilities interface setting (again packet % 2048)) one
    ∙ ap (λ (x : ℕ). described_as kind segment capabilities interface setting (x % 2048)) two
    ∙ ap (λ (x : ℕ). described_as kind segment capabilities interface setting x) three

built_as : (class : Class) (p : Params) → IsDescribed class → p.segment < 65536 → p.packet ≤ 1024 → function_of (configuration_as class p) ≡ Ok (function_as class p)
built_as Ecm p d s k = ecm_built p.segment p.packet ∙ as_said kinds.Ecm p.segment 0 1 1 p.packet s k
built_as Eem p d s k = eem_built p.packet ∙ as_said kinds.Eem 0 0 0 0 p.packet (omega arith) k
built_as Ncm16 p d s k = ncm_built p.segment p.packet ∙ as_said kinds.Ncm p.segment 9 1 1 p.packet s k
built_as Ncm32 p d s k = ncm_built p.segment p.packet ∙ as_said kinds.Ncm p.segment 9 1 1 p.packet s k
built_as Rndis p d s k = absurd d

pub built_is_read : (p : Params) → AreInRange p → IsDescribed p.class → function_of (configuration p) ≡ Ok (function p)
unfolding configuration
built_is_read p range described = built_as p.class p described (omega (arith, range.segment)) (packet_small p.packet range.packet)
