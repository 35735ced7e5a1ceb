-- No subcommand (form) has an argument (word) that begins with a dash.
use Rattle.std.proofs.Common.{true≢false, ◌≡◌, ◌∙◌, ◌&&◌, ◌||◌, ℕ, Bool, true, false, not, List, [], ◌∷◌, Option, Some, None, Result, Ok, Err, refl, sym, ap, inl, inr, if◌then◌else◌}
use Rattle.std.specs.Prelude.{◌⊎◌}
use Rattle.std.specs.List.{list_any}
use Rattle.std.proofs.lemmas.Bool.{eqb-true}
use Rattle.flop_base.specs.declared.answers.NoMemory.{NoMemory}
use Rattle.floppy_jobs.specs.Names.{is_name_text, name_of}
use Rattle.floppy_jobs.specs.Numbers.{number_of}
use Rattle.floppy_words.specs.declared.form.Form.{Form}
use Rattle.floppy_words.specs.Forms.{Reads, begins_with_dash, cylinders_of, disk_of, play_of, format_of, formatdd_of, copy_of, verify_of, names_of, fromimd_of, toimd_of, survey_of, remaster_of, form_of, import_of, export_of, seed_of, count_of, workload_of, exercise_of, int13_of, rescue_of}

some_true : {X : Type 0} (b : Bool) (x y : X) → (if b then Some x else None) ≡ Some y → b ≡ true
some_true true x y e = refl
some_true false x y e = absurd cc

and_left : (a b : Bool) → (a && b) ≡ true → a ≡ true
and_left true b h = refl
and_left false b h = h

and_right : (a b : Bool) → (a && b) ≡ true → b ≡ true
and_right true b h = h
and_right false b h = absurd cc

not_true : (a : Bool) → not a ≡ true → a ≡ false
not_true true h = absurd cc
not_true false h = refl

-- a name doesn't begin with a dash
name_plain : (word name : List ℕ) → name_of word ≡ Some name → begins_with_dash word ≡ false
unfolding name_of is_name_text
name_plain word name e = not_true _ (and_right _ _ (and_left _ _ (some_true _ _ _ e)))

-- a number doesn't begin with a dash, 45
dash_count : (word : List ℕ) → cylinders_of (45 ∷ word) ≡ None
unfolding cylinders_of number_of
dash_count word = go _ _ _ _
  where
    go : (long d e : Bool) (v : ℕ) → (if long && false && d && e then Some v else None) ≡ None
    go true d e v = refl
    go false d e v = refl

is_dash : (word : List ℕ) → begins_with_dash word ≡ true → (rest : List ℕ) × (word ≡ 45 ∷ rest)
is_dash [] e = absurd cc
is_dash (d ∷ rest) e = (rest, ap (λ x. x ∷ rest) (eqb-true d 45 e))

none_or : {X : Type 0} (o : Option X) → (o ≡ None) ⊎ ((x : X) × (o ≡ Some x))
none_or None = inl refl
none_or (Some x) = inr (x, refl)

pub dash_name : (word : List ℕ) → begins_with_dash word ≡ true → name_of word ≡ None
dash_name word dash = elim (none_or (name_of word)) [
  | inl e ↦ e
  | inr found ↦ let plain = name_plain word found.0 found.1 in absurd cc
]

dash_cylinders : (word : List ℕ) → begins_with_dash word ≡ true → cylinders_of word ≡ None
dash_cylinders word dash = let is = is_dash word dash in rw is.1 (dash_count is.0)

pub any_one : (a : Bool) → (a || false) ≡ true → a ≡ true
any_one true e = refl
any_one false e = absurd cc

play_none : (words : List (List ℕ)) → list_any begins_with_dash words ≡ true → play_of words ≡ None
unfolding play_of
play_none (word ∷ []) e = let none = dash_name word (any_one _ e) in rw none refl
play_none _ e = refl

verify_none : (words : List (List ℕ)) → list_any begins_with_dash words ≡ true → verify_of words ≡ None
unfolding verify_of
verify_none (word ∷ []) e = let none = dash_name word (any_one _ e) in rw none refl
verify_none _ e = refl

-- if a test finds something among two words, it holds of one of them
either_dash : (a b : Bool) → (a || (b || false)) ≡ true → (a ≡ true) ⊎ (b ≡ true)
either_dash true b e = inl refl
either_dash false true e = inr refl
either_dash false false e = absurd cc

copy_none : (words : List (List ℕ)) → list_any begins_with_dash words ≡ true → copy_of words ≡ None
unfolding copy_of
copy_none [] e = refl
copy_none (source ∷ []) e = refl
copy_none (source ∷ target ∷ []) e = elim (either_dash _ _ e) [
  | inl dash ↦ let none = dash_name source dash in rw none refl
  | inr dash ↦ let none = dash_name target dash in elim (none_or (name_of source)) [
    | inl other ↦ rw other refl
    | inr found ↦ rw (found.1, none) refl
  ]
]
copy_none (source ∷ target ∷ next ∷ rest) e = refl

-- if a test finds something among three words, it holds of one of them
any_of_three : (a b c : Bool) → (a || (b || (c || false))) ≡ true → (a ≡ true) ⊎ ((b ≡ true) ⊎ (c ≡ true))
any_of_three true b c e = inl refl
any_of_three false true c e = inr (inl refl)
any_of_three false false true e = inr (inr refl)
any_of_three false false false e = absurd cc

rescue_none : (words : List (List ℕ)) → list_any begins_with_dash words ≡ true → rescue_of words ≡ None
unfolding rescue_of
rescue_none [] e = refl
rescue_none (source ∷ []) e = refl
rescue_none (source ∷ target ∷ []) e = refl
rescue_none (source ∷ target ∷ list ∷ []) e = elim (any_of_three _ _ _ e) [
  | inl dash ↦ let none = dash_name source dash in rw none refl
  | inr behind ↦ elim (none_or (name_of source)) [
    | inl other ↦ rw other refl
    | inr from ↦ elim behind [
      | inl dash ↦ let none = dash_name target dash in rw (from.1, none) refl
      | inr dash ↦ let none = dash_name list dash in elim (none_or (name_of target)) [
        | inl other ↦ rw (from.1, other) refl
        | inr to ↦ rw (from.1, to.1, none) refl
      ]
    ]
  ]
]
rescue_none (source ∷ target ∷ list ∷ next ∷ rest) e = refl

disk_none : (words : List (List ℕ)) → list_any begins_with_dash words ≡ true → disk_of words ≡ None
unfolding disk_of
disk_none [] e = refl
disk_none (word ∷ []) e = refl
disk_none (word ∷ count ∷ []) e = elim (either_dash _ _ e) [
  | inl dash ↦ let none = dash_name word dash in rw none refl
  | inr dash ↦ let none = dash_cylinders count dash in elim (none_or (name_of word)) [
    | inl other ↦ rw other refl
    | inr found ↦ rw (found.1, none) refl
  ]
]
disk_none (word ∷ count ∷ next ∷ rest) e = refl

format_none : (words : List (List ℕ)) → list_any begins_with_dash words ≡ true → format_of words ≡ None
unfolding format_of
format_none words e = let none = disk_none words e in rw none refl

formatdd_none : (words : List (List ℕ)) → list_any begins_with_dash words ≡ true → formatdd_of words ≡ None
unfolding formatdd_of
formatdd_none words e = let none = disk_none words e in rw none refl

names_none : (words : List (List ℕ)) → list_any begins_with_dash words ≡ true → names_of words ≡ None
unfolding names_of
names_none [] e = refl
names_none (source ∷ []) e = refl
names_none (source ∷ target ∷ []) e = elim (either_dash _ _ e) [
  | inl dash ↦ let none = dash_name source dash in rw none refl
  | inr dash ↦ let none = dash_name target dash in elim (none_or (name_of source)) [
    | inl other ↦ rw other refl
    | inr found ↦ rw (found.1, none) refl
  ]
]
names_none (source ∷ target ∷ next ∷ rest) e = refl

fromimd_none : (words : List (List ℕ)) → list_any begins_with_dash words ≡ true → fromimd_of words ≡ None
unfolding fromimd_of
fromimd_none words e = let none = names_none words e in rw none refl

toimd_none : (words : List (List ℕ)) → list_any begins_with_dash words ≡ true → toimd_of words ≡ None
unfolding toimd_of
toimd_none words e = let none = names_none words e in rw none refl

survey_none : (words : List (List ℕ)) → list_any begins_with_dash words ≡ true → survey_of words ≡ None
unfolding survey_of
survey_none (word ∷ []) e = let none = dash_name word (any_one _ e) in rw none refl
survey_none _ e = refl

remaster_none : (words : List (List ℕ)) → list_any begins_with_dash words ≡ true → remaster_of words ≡ None
unfolding remaster_of
remaster_none words e = let none = names_none words e in rw none refl

import_none : (words : List (List ℕ)) → list_any begins_with_dash words ≡ true → import_of words ≡ None
unfolding import_of
import_none words e = let none = names_none words e in rw none refl

export_none : (words : List (List ℕ)) → list_any begins_with_dash words ≡ true → export_of words ≡ None
unfolding export_of
export_none words e = let none = names_none words e in rw none refl

dash_number : (least greatest : ℕ) (word : List ℕ) → begins_with_dash word ≡ true → number_of 10 1 10 least greatest word ≡ None
unfolding number_of
dash_number least greatest word dash = let is = is_dash word dash in rw is.1 (no_digit _ _ _ _)
  where
    no_digit : (long d e : Bool) (v : ℕ) → (if long && false && d && e then Some v else None) ≡ None
    no_digit true d e v = refl
    no_digit false d e v = refl

exercise_none : (words : List (List ℕ)) → list_any begins_with_dash words ≡ true → exercise_of words ≡ None
unfolding exercise_of workload_of seed_of count_of
exercise_none [] e = refl
exercise_none (seed ∷ []) e = refl
exercise_none (seed ∷ count ∷ []) e = elim (either_dash _ _ e) [
  | inl dash ↦ let none = dash_number 0 2147483647 seed dash in rw none refl
  | inr dash ↦ let none = dash_number 0 2000 count dash in elim (none_or (number_of 10 1 10 0 2147483647 seed)) [
    | inl missing ↦ rw missing refl
    | inr found ↦ rw (found.1, none) refl
  ]
]
exercise_none (seed ∷ count ∷ next ∷ rest) e = refl

int13_none : (words : List (List ℕ)) → list_any begins_with_dash words ≡ true → int13_of words ≡ None
unfolding int13_of
int13_none (word ∷ []) e = let none = dash_name word (any_one _ e) in rw none refl
int13_none _ e = refl

-- if one of two is true, it is the first or the second
pub either_or : (a b : Bool) → (a || b) ≡ true → (a ≡ true) ⊎ (b ≡ true)
either_or true b e = inl refl
either_or false b e = inr e

-- if both parts of a choice give nothing, the choice gives nothing
chosen_none : {X : Type 0} (b : Bool) (x y : Option X) → x ≡ None → y ≡ None → (if b then x else y) ≡ None
chosen_none true x y e f = e
chosen_none false x y e f = f

-- words of which one begins with a dash are no form
pub dash_none : (words : List (List ℕ)) → list_any begins_with_dash words ≡ true → form_of words ≡ None
unfolding form_of
dash_none [] e = refl
dash_none ([] ∷ words) e = refl
dash_none ((d ∷ rest) ∷ words) e = elim (either_or _ _ e) [
  | inl dash ↦ let is : d ≡ 45 = eqb-true d 45 dash in rw is refl
  | inr behind ↦ chosen_none _ _ _ (play_none words behind) (chosen_none _ _ _ (format_none words behind)
      (chosen_none _ _ _ (formatdd_none words behind) (chosen_none _ _ _ (copy_none words behind)
      (chosen_none _ _ _ (verify_none words behind) (chosen_none _ _ _ (fromimd_none words behind) (chosen_none _ _ _ (toimd_none words behind) (chosen_none _ _ _ (survey_none words behind) (chosen_none _ _ _ (remaster_none words behind) (chosen_none _ _ _ (import_none words behind) (chosen_none _ _ _ (export_none words behind) (chosen_none _ _ _ (exercise_none words behind) (chosen_none _ _ _ (int13_none words behind) (chosen_none _ _ _ (rescue_none words behind) refl)))))))))))))
]

-- such words are read as no form
pub reads_none : (read : Result (Option Form) NoMemory) (words : List (List ℕ)) → Reads read (form_of words)
    → list_any begins_with_dash words ≡ true → read ≡ Ok None
reads_none (Ok form) words reads dash = ap Ok (reads ∙ dash_none words dash)
reads_none (Err error) words reads dash = let none = dash_none words dash in let bad = rw none at reads in absurd (true≢false (sym bad))
