-- The parameters of a class where nothing says others are in range, and the ends agree on them.
use Rattle.std.proofs.Common.{◌≤◌, refl, arith}
use Rattle.un_frame.specs.declared.params.Class.{Class}
use Rattle.un_frame.specs.declared.params.Class.TheVariants.{Ecm, Eem, Ncm16, Ncm32, Rndis}
use Rattle.un_frame.specs.NtbForm.{least_place, least_multiple}
use Rattle.un_frame.specs.Params.{AreInRange, Agree, defaults, most_block}

in_range : (class : Class) → 16384 ≤ most_block class → AreInRange (defaults class)
in_range class most = record {
  segment = (omega arith, omega arith);
  packet = refl;
  filter = omega arith;
  block = (omega arith, most);
  datagrams = omega arith;
  divisor = (omega arith, omega arith);
  remainder = omega arith;
  alignment = (omega arith, omega arith);
  tx_out = (omega arith, omega arith);
  rx_out = (omega arith, omega arith);
  tx_in = (omega arith, omega arith);
  rx_in = (omega arith, omega arith);
}

pub defaults_in_range : (class : Class) → AreInRange (defaults class)
defaults_in_range Ecm = in_range Ecm (omega arith)
defaults_in_range Eem = in_range Eem (omega arith)
defaults_in_range Ncm16 = in_range Ncm16 (omega arith)
defaults_in_range Ncm32 = in_range Ncm32 (omega arith)
defaults_in_range Rndis = in_range Rndis (omega arith)

pub defaults_agree : (class : Class) → Agree (defaults class)
unfolding least_place least_multiple
defaults_agree Ecm = tt
defaults_agree Eem = tt
defaults_agree Ncm16 = record { divisor = refl; remainder = omega arith; alignment = refl; largest = omega arith }
defaults_agree Ncm32 = record { divisor = refl; remainder = omega arith; alignment = refl; largest = omega arith }
defaults_agree Rndis = tt
