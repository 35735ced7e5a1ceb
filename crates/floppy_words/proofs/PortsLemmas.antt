-- The words `ports FILE` are no form, and none of them begins with a dash.
use Rattle.std.proofs.Common.{◌≡◌, ◌∙◌, ℕ, Bool, true, false, List, [], ◌∷◌, Option, Some, None, Result, Ok, Err, refl, sym, ap, true≢false, inl, inr, if◌then◌else◌}
use Rattle.std.specs.Prelude.{codes}
use Rattle.std.specs.List.{list_any}
use Rattle.std.proofs.lemmas.Bool.{eqb-true}
use Rattle.std.proofs.lemmas.Slice.Eq.{bytes_eq-Decides}
use Rattle.flop_base.specs.declared.answers.NoMemory.{NoMemory}
use Rattle.floppy_words.specs.Forms.{Reads, begins_with_dash, form_of, ports_file_of}
use Rattle.floppy_words.proofs.DashLemmas.{dash_name, any_one, either_or}

-- if a choice between a value and none gives something, its condition is true
chosen : {X : Type 0} (b : Bool) (x : Option X) (y : X) → (if b then x else None) ≡ Some y → b ≡ true
chosen true x y e = refl
chosen false x y e = absurd cc

no_form_of : (verb : List ℕ) (words : List (List ℕ)) → verb ≡ codes "ports" → form_of (verb ∷ words) ≡ None
unfolding form_of
no_form_of verb words e = rw e refl

pub no_form : (words : List (List ℕ)) (file : List ℕ) → ports_file_of words ≡ Some file → form_of words ≡ None
unfolding ports_file_of
no_form (verb ∷ word ∷ []) file e =
    no_form_of verb (word ∷ []) ((bytes_eq-Decides verb (codes "ports")).0 (chosen _ _ _ e))
no_form _ file e = absurd cc

dash_none : (words : List (List ℕ)) → list_any begins_with_dash words ≡ true → ports_file_of words ≡ None
unfolding ports_file_of
dash_none [] e = refl
dash_none (verb ∷ []) e = refl
dash_none ([] ∷ word ∷ []) e = refl
dash_none ((d ∷ letters) ∷ word ∷ []) e = elim (either_or _ _ e) [
  | inl dash ↦ let is : d ≡ 45 = eqb-true d 45 dash in rw is refl
  | inr behind ↦ let none = dash_name word (any_one _ behind) in rw none (never _ _)
]
  where
    never : {X : Type 0} (b : Bool) (x : Option X) → (if b then x else x) ≡ x
    never true x = refl
    never false x = refl
dash_none (verb ∷ word ∷ next ∷ rest) e = refl

-- words of which one begins with a dash are read as naming no text
pub reads_no_file : (read : Result (Option (List ℕ)) NoMemory) (words : List (List ℕ)) → Reads read (ports_file_of words)
    → list_any begins_with_dash words ≡ true → read ≡ Ok None
reads_no_file (Ok file) words reads dash = ap Ok (reads ∙ dash_none words dash)
reads_no_file (Err error) words reads dash = let none = dash_none words dash in let bad = rw none at reads in absurd (true≢false (sym bad))
