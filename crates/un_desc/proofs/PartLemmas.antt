-- The first of each kind, one descriptor after the other.
use Rattle.std.proofs.Common.{◌≡◌, ℕ, true, false, List, [], ◌∷◌, Option, Some, None, refl}
use Rattle.std.specs.Option.{option_or}
use Rattle.std.specs.Prelude.{is_some}
use Rattle.un_desc.specs.declared.descriptor.Descriptor.{Descriptor}
use Rattle.un_desc.specs.declared.parts.Parts.{Parts}
use Rattle.un_desc.specs.declared.parts.Bulk.{Bulk}
use Rattle.un_desc.specs.declared.parts.Setting.{Setting}
use Rattle.un_desc.specs.Reading.{first, is_interface, parts_of, parts_in, merged, own, bulk_of, ends_in, merged_bulk, setting_of, setting_here}

either_none : {X : Type 0} (a : Option X) → option_or a None ≡ a
either_none (Some x) = refl
either_none None = refl

either_assoc : {X : Type 0} (a b c : Option X) → option_or (option_or a b) c ≡ option_or a (option_or b c)
either_assoc (Some x) b c = refl
either_assoc None b c = refl

-- of parts
pub merged_end : (p : Parts) → merged p (parts_of []) ≡ p
unfolding first
merged_end p = simp either_none

pub merged_more : (p : Parts) (d : Descriptor) (ds : List Descriptor) → merged (merged p (parts_in d)) (parts_of ds) ≡ merged p (parts_of (d ∷ ds))
unfolding first
merged_more p d ds = simp either_assoc

-- of the bulk endpoints of an interface
pub bulk_end : (b : Bulk) → merged_bulk b (bulk_of []) ≡ b
unfolding first own
bulk_end b = simp either_none

pub bulk_next : (b : Bulk) (d : Descriptor) (ds : List Descriptor) → is_interface d ≡ true → merged_bulk b (bulk_of (d ∷ ds)) ≡ b
unfolding first own
bulk_next b d ds h = rw h (simp either_none)

pub bulk_more : (b : Bulk) (d : Descriptor) (ds : List Descriptor) → is_interface d ≡ false → merged_bulk (merged_bulk b (ends_in d)) (bulk_of ds) ≡ merged_bulk b (bulk_of (d ∷ ds))
unfolding first own
bulk_more b d ds h = rw h (simp either_assoc)

-- of settings
pub setting_none : (number : ℕ) (d : Descriptor) (ds : List Descriptor) → is_some (setting_here number d (bulk_of ds)) ≡ false → setting_of number (d ∷ ds) ≡ setting_of number ds
unfolding setting_of
setting_none number d ds h = pick (setting_here number d (bulk_of ds)) h where
  pick : (s : Option Setting) → is_some s ≡ false → option_or s (setting_of number ds) ≡ setting_of number ds
  pick (Some x) e = cc
  pick None e = refl

pub setting_some : (number : ℕ) (d : Descriptor) (ds : List Descriptor) → is_some (setting_here number d (bulk_of ds)) ≡ true → setting_of number (d ∷ ds) ≡ setting_here number d (bulk_of ds)
unfolding setting_of
setting_some number d ds h = pick (setting_here number d (bulk_of ds)) h where
  pick : (s : Option Setting) → is_some s ≡ true → option_or s (setting_of number ds) ≡ s
  pick (Some x) e = refl
  pick None e = cc

pub setting_end : (number : ℕ) → setting_of number [] ≡ None
unfolding setting_of
setting_end number = refl
