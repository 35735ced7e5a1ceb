-- One more step at the end of a run.
use Rattle.std.proofs.Common.{◌≡◌, ℕ, Bool, true, false, List, [], ◌∷◌, ◌++◌, refl, ap, ◌∙◌, sym, subst, append-nil, append_assoc, Option}
use Rattle.std.specs.Prelude.{◌||◌}
use Rattle.sector_model.proofs.Common.{Files, Request, State, Step, Taken, Run, requests_of, course_lines, has_refusal}
use Rattle.sector_model.specs.Texts.{reply_lines, is_refusal}

pub run_more : (old mid : State) (told mid_told after : Option Files) (course : List Taken) (taken : Taken) → Run old told course mid mid_told → Step taken.asked mid mid_told taken.answer taken.after after → Run old told (course ++ taken ∷ []) taken.after after
run_more old mid told mid_told after [] taken run step =
    let here : Step taken.asked old mid_told taken.answer taken.after after = subst (λ (s : State). Step taken.asked s mid_told taken.answer taken.after after) run.0 step in
    (after, subst (λ (f : Option Files). Step taken.asked old f taken.answer taken.after after) run.1 here, (refl, refl))
run_more old mid told mid_told after (first ∷ later) taken run step =
    (run.0, run.1, run_more first.after mid run.0 mid_told after later taken run.2 step)

pub requests_more : (course : List Taken) (taken : Taken) → requests_of (course ++ taken ∷ []) ≡ requests_of course ++ taken.asked ∷ []
requests_more [] taken = refl
requests_more (first ∷ later) taken = ap (λ (rest : List Request). first.asked ∷ rest) (requests_more later taken)

pub text_more : (course : List Taken) (taken : Taken) → course_lines (course ++ taken ∷ []) ≡ course_lines course ++ reply_lines taken.asked taken.answer
text_more [] taken = append-nil (reply_lines taken.asked taken.answer)
text_more (first ∷ later) taken =
    ap (λ (rest : List (List ℕ)). reply_lines first.asked first.answer ++ rest) (text_more later taken)
    ∙ sym (append_assoc (reply_lines first.asked first.answer) (course_lines later) (reply_lines taken.asked taken.answer))

or-false : (b : Bool) → (b || false) ≡ b
or-false true = refl
or-false false = refl

or-moves : (a b c : Bool) → (a || (b || c)) ≡ ((a || b) || c)
or-moves true b c = refl
or-moves false b c = refl

pub refusal_more : (course : List Taken) (taken : Taken) → has_refusal (course ++ taken ∷ []) ≡ (has_refusal course || is_refusal taken.answer)
refusal_more [] taken = or-false (is_refusal taken.answer)
refusal_more (first ∷ later) taken =
    ap (λ (rest : Bool). is_refusal first.answer || rest) (refusal_more later taken)
    ∙ or-moves (is_refusal first.answer) (has_refusal later) (is_refusal taken.answer)
