-- A link that was made for a script's text.
use Rattle.std.specs.Prelude.{◌≡◌, ℕ, List, [], Ok}
use Rattle.un_frame.specs.Params.{AreInRange, Agree}
use Rattle.un_script.specs.Reading.{script_of}
use Rattle.un_setup.specs.declared.agreement.Agreed.{Agreed}
use Rattle.un_setup.specs.Agreement.{agreed_of}
use Rattle.un_link.specs.Link.{Link, flights_of}

-- it has the text's script, on whose parameters its two ends agree, and nothing has happened to it
pub record IsPrepared (text : List ℕ) (link : Link) (agreed : Agreed) : Type 0 where
  pub script_is : script_of text ≡ Ok link.script
  pub in_range : AreInRange link.script.params
  pub agrees : Agree link.script.params
  pub agreed_is : agreed_of link.script.params ≡ Ok agreed
  pub same_params : agreed.params ≡ link.script.params
  pub fresh : link.log.history ≡ []
  pub none_out : flights_of link ≡ []
