-- What a codec is, in each class.
use Rattle.std.specs.Prelude.{false, []}
use Rattle.un_frame.specs.declared.params.Params.{Params}
use Rattle.un_frame.specs.Wire.{Coding}
use Rattle.un_wire.specs.declared.codec.Codec.{Codec}
use Rattle.un_wire.specs.declared.codec.Codec.TheVariants.{Ecm, Eem, Ncm16, Ncm32, Rndis}

-- its parameters, the sizes of the open transfer's frames, and whether one is open
abbrev pub coding_of : Codec → Coding
coding_of (Ecm codec) = codec
coding_of (Eem codec) = codec
coding_of (Ncm16 codec) = codec
coding_of (Ncm32 codec) = codec
coding_of (Rndis codec) = codec

-- a new codec: no transfer is open
abbrev pub fresh : Params → Coding
fresh params = record { params = params; sizes = []; is_open = false }
