-- Parameters on which the two ends agreed.
use Rattle.std.proofs.Common.{◌≡◌, Result, Ok, Err, refl, sym, ap, subst, arith}
use Rattle.un_frame.specs.declared.params.Params.{Params}
use Rattle.un_frame.specs.declared.params.Lane.TheVariants.{Outward, Inward}
use Rattle.un_frame.specs.Params.{Agree}
use Rattle.un_setup.specs.declared.agreement.Agreed.{Agreed}
use Rattle.un_setup.specs.declared.agreement.SetupFault.{SetupFault}
use Rattle.un_setup.specs.Agreement.{agreed_of, agreement, tested_as, ◌>>=◌}
use Rattle.un_setup.proofs.Agrees.{tests_pass}
use Rattle.un_endpoint.specs.Ends.{Transmitter, Receiver}
use Rattle.un_endpoint.specs.Sound.{fresh_tx}
use Rattle.un_receive.specs.Rx.{fresh_rx}
use Rattle.un_lane.specs.Fresh.{AreFresh}

pub record IsAgreement (p : Params) (a : Agreed) : Type 0 where
  pub agree : Agree p
  pub params_are : a.params ≡ p

params_in : Params → Result Agreed SetupFault → Params
params_in p (Ok a) = a.params
params_in p (Err e) = p

pub agreed_is : (p : Params) (a : Agreed) → agreed_of p ≡ Ok a → IsAgreement p a
unfolding agreed_of params_in
agreed_is p a e = go (tested_as p.class p) refl e
  where
    go : (t : Result (Unit {0}) SetupFault) → tested_as p.class p ≡ t → (t >>= λ _. Ok (agreement p)) ≡ Ok a → IsAgreement p a
    go (Ok u) q e = record { agree = tests_pass p.class p q; params_are = sym (ap (params_in p) e) }
    go (Err f) q e = absurd (cc)

-- NEW ENDS

base_out : (p : Params) → AreFresh Outward (fresh_tx Outward p) (fresh_rx Outward p) p.tx_out p.rx_out
base_out p = record { tx_is = refl; rx_is = refl; tx_count_is = refl; rx_count_is = refl; wide = omega arith }

base_in : (p : Params) → AreFresh Inward (fresh_tx Inward p) (fresh_rx Inward p) p.tx_in p.rx_in
base_in p = record { tx_is = refl; rx_is = refl; tx_count_is = refl; rx_count_is = refl; wide = omega arith }

pub fresh_out : (p q : Params) (t : Transmitter) (r : Receiver) → p ≡ q → t ≡ fresh_tx Outward p → r ≡ fresh_rx Outward p → AreFresh Outward t r q.tx_out q.rx_out
fresh_out p q t r e et er =
    subst (λ (i : Params). AreFresh Outward t r i.tx_out i.rx_out) e
    (subst (λ i. AreFresh Outward i r p.tx_out p.rx_out) (sym et) (subst (λ i. AreFresh Outward (fresh_tx Outward p) i p.tx_out p.rx_out) (sym er) (base_out p)))

pub fresh_in : (p q : Params) (t : Transmitter) (r : Receiver) → p ≡ q → t ≡ fresh_tx Inward p → r ≡ fresh_rx Inward p → AreFresh Inward t r q.tx_in q.rx_in
fresh_in p q t r e et er =
    subst (λ (i : Params). AreFresh Inward t r i.tx_in i.rx_in) e
    (subst (λ i. AreFresh Inward i r p.tx_in p.rx_in) (sym et) (subst (λ i. AreFresh Inward (fresh_tx Inward p) i p.tx_in p.rx_in) (sym er) (base_in p)))
