-- Options, and texts as names.
use Rattle.std.proofs.Common.{◌≡◌, ◌∙◌, ℕ, true, refl, ap, List, Option, Some, None, option_map, Contains}
use Rattle.std.specs.List.{list_any}
use Rattle.std.specs.Str.{bytes_eq}
use Rattle.std.proofs.lemmas.List.Folds.{list_any_at}
use Rattle.mcf_words.proofs.Rows.{same_text}
use Rattle.mcf_words.specs.Request.{◌>>=◌}

pub some_is : {A : Type 0} (x y : A) → Some x ≡ Some y → x ≡ y
some_is x y e = cc

pub none_is : {A : Type 0} (x : A) → None ≡ Some x → ⊥
none_is x e = cc

pub bind_some : {A B : Type 0} (o : Option A) (f : A → Option B) (y : B) → (o >>= f) ≡ Some y → (x : A) × (o ≡ Some x) × (f x ≡ Some y)
bind_some None f y e = absurd cc
bind_some (Some x) f y e = (x, refl, e)

pub mapped : {A B : Type 0} (f : A → B) (o : Option A) (y : B) → option_map f o ≡ Some y → (x : A) × (o ≡ Some x) × (f x ≡ y)
mapped f None y e = absurd cc
mapped f (Some x) y e = (x, refl, some_is (f x) y e)

-- a text is found among those that contain it
pub any_of : (q : List ℕ) (ks : List (List ℕ)) → Contains ks q → list_any (bytes_eq q) ks ≡ true
any_of q ks has = list_any_at (bytes_eq q) ks has.0 q has.1 (ap (bytes_eq q) has.2 ∙ same_text q)
