-- A log's text is the text of no other log, and has no bad line.
use Rattle.std.proofs.Common.{◌≡◌, ℕ, ◌<◌, List, [], ◌∷◌, ◌++◌, length, get_or, refl, sym, ap, ◌∙◌, subst, arith, append_assoc, length-append}
use Rattle.rescue.proofs.Common.{get_or_append_left, append-nil, append_cancel_left, recursion_from_All, AllByRecursion, BeginsWith, line_text, log_text, IsLogLine, IsBefore, IsLog, IsFirstBadLine, LogLine}
use Rattle.rescue.proofs.LogLemmas.{less_left}
use Rattle.rescue.proofs.TextLemmas.{begins_with_one, same_tail}

-- the text of a first line and the others
text-cons : (line : LogLine) (lines : List LogLine) (rest : List ℕ) → log_text (line ∷ lines) ++ rest ≡ line_text line ++ (10 ∷ (log_text lines ++ rest))
text-cons line lines rest = regroup (line_text line) (log_text lines)
  where
    regroup : (text more : List ℕ) → ((text ++ 10 ∷ []) ++ more) ++ rest ≡ text ++ (10 ∷ (more ++ rest))
    regroup text more = simp append_assoc

text_cons : (line : LogLine) (lines : List LogLine) → log_text (line ∷ lines) ≡ line_text line ++ (10 ∷ log_text lines)
text_cons line lines = regroup (line_text line) (log_text lines)
  where
    regroup : (text more : List ℕ) → (text ++ 10 ∷ []) ++ more ≡ text ++ (10 ∷ more)
    regroup text more = simp append_assoc

-- lines of which each may stand in a log
abbrev AreValid : ℕ → List LogLine → Type 0
AreValid sectors lines = AllByRecursion (IsLogLine sectors) lines

-- a text that begins with a log's text is the text of a longer log
record IsLonger (front lines : List LogLine) (rest : List ℕ) : Type 0 where
  pub more : List LogLine
  pub lines_are : lines ≡ front ++ more
  pub rest_is : rest ≡ log_text more

longer : (sectors : ℕ) (front lines : List LogLine) (rest : List ℕ) → sectors < 256 → AreValid sectors front → AreValid sectors lines
    → log_text lines ≡ log_text front ++ rest → IsLonger front lines rest
longer sectors [] lines rest small good valid h = record { more = lines; lines_are = refl; rest_is = sym h }
longer sectors (f ∷ fs) [] rest small good valid h =
    let less = less_left [] (line_text f) (log_text fs ++ rest) (h ∙ text-cons f fs rest) in
    absurd (omega arith)
longer sectors (f ∷ fs) (l ∷ ls) rest small good valid h =
    let here : BeginsWith sectors (log_text (l ∷ ls)) l (log_text ls) = record { begins = text_cons l ls; valid = valid.0 } in
    let there : BeginsWith sectors (log_text (l ∷ ls)) f (log_text fs ++ rest) = record { begins = h ∙ text-cons f fs rest; valid = good.0 } in
    let same : l ≡ f = begins_with_one sectors (log_text (l ∷ ls)) l f (log_text ls) (log_text fs ++ rest) small here there in
    let texts = sym (ap (λ (k : LogLine). line_text k ++ (10 ∷ log_text ls)) same) ∙ sym here.begins ∙ there.begins in
    let tails : log_text ls ≡ log_text fs ++ rest = same_tail _ _ _ _ (append_cancel_left (line_text f) (10 ∷ log_text ls) (10 ∷ (log_text fs ++ rest)) texts) in
    let behind = longer sectors fs ls rest small good.1 valid.1 tails in
    record { more = behind.more; lines_are = cc (same, behind.lines_are); rest_is = behind.rest_is }

valid : (sectors : ℕ) (lines : List LogLine) → IsLog sectors lines → AreValid sectors lines
valid sectors lines log = recursion_from_All (IsLogLine sectors) lines log.each

no_text : (lines : List LogLine) → [] ≡ log_text lines → lines ≡ []
no_text [] h = refl
no_text (l ∷ ls) h =
    let less = less_left [] (line_text l) (log_text ls) (h ∙ text_cons l ls) in
    absurd (omega arith)

-- no other log has the same text
pub one_spelling : (sectors : ℕ) (lines others : List LogLine) → sectors < 256 → IsLog sectors lines → IsLog sectors others
    → log_text lines ≡ log_text others → lines ≡ others
one_spelling sectors lines others small log log' h =
    let behind = longer sectors others lines [] small (valid sectors others log') (valid sectors lines log) (h ∙ sym (append-nil (log_text others))) in
    let none = no_text behind.more behind.rest_is in
    behind.lines_are ∙ ap (λ (more : List LogLine). others ++ more) none ∙ append-nil others

-- the beginning of a log is a log
beginning : (sectors : ℕ) (lines more : List LogLine) → IsLog sectors (lines ++ more) → IsLog sectors lines
beginning sectors lines more log = record {
  each = λ k d inside. subst (IsLogLine sectors) (get_or_append_left lines more d k inside) (log.each k d (omega (arith, length-append lines more)));
  rising = λ i j d order inside.
      let low = get_or_append_left lines more d i (omega arith) in
      let high = get_or_append_left lines more d j inside in
      subst (λ (a : LogLine). IsBefore a.key (get_or lines j d).key) low
      (subst (λ (b : LogLine). IsBefore (get_or (lines ++ more) i d).key b.key) high (log.rising i j d order (omega (arith, length-append lines more))));
}

not_bad : (sectors : ℕ) (front lines more : List LogLine) (rest : List ℕ) → IsLog sectors lines → lines ≡ front ++ more → rest ≡ log_text more → 0 < length rest
    → ((line : LogLine) (others : List ℕ) → rest ≡ line_text line ++ (10 ∷ others) → IsLog sectors (front ++ line ∷ []) → ⊥) → ⊥
not_bad sectors front lines [] rest log is text some bad = omega (arith, ap length text)
not_bad sectors front lines (m ∷ ms) rest log is text some bad =
    let regrouped : lines ≡ (front ++ m ∷ []) ++ ms = is ∙ sym (append_assoc front (m ∷ []) ms) in
    bad m (log_text ms) (text ∙ text_cons m ms) (beginning sectors (front ++ m ∷ []) ms (subst (IsLog sectors) regrouped log))

-- no line of a log's text is bad
pub understood : (sectors n : ℕ) (lines : List LogLine) → sectors < 256 → IsLog sectors lines → IsFirstBadLine sectors (log_text lines) n → ⊥
understood sectors n lines small log b =
    let behind = longer sectors b.lines lines b.rest small (valid sectors b.lines b.good) (valid sectors lines log) b.begins in
    not_bad sectors b.lines lines behind.more b.rest log behind.lines_are behind.rest_is b.more b.bad
