-- The laws of every class: who takes them from here needs no case for a class.
use Rattle.un_frame.specs.declared.params.Class.{Class}
use Rattle.un_frame.specs.declared.params.Class.TheVariants.{Ecm, Eem, Ncm16, Ncm32, Rndis}
use Rattle.un_frame.specs.Classes.{rules_of}
use Rattle.un_frame.proofs.ClassLaws.{ClassLaws}
use Rattle.un_frame.proofs.EcmLaws.{ecm_laws}
use Rattle.un_frame.proofs.EemLaws.{eem_laws}
use Rattle.un_frame.proofs.NtbLaws.{ncm16_laws, ncm32_laws}
use Rattle.un_frame.proofs.RndisLaws.{rndis_laws}

pub laws_of : (class : Class) → ClassLaws (rules_of class)
laws_of Ecm = ecm_laws
laws_of Eem = eem_laws
laws_of Ncm16 = ncm16_laws
laws_of Ncm32 = ncm32_laws
laws_of Rndis = rndis_laws
