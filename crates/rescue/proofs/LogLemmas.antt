-- A log grows line by line, and its beginnings are logs.
use Rattle.std.proofs.Common.{◌≡◌, ℕ, ◌+◌, ◌-◌, ◌<◌, ◌≤◌, Bool, true, false, List, [], ◌∷◌, ◌++◌, length, take, get_or, eqb, Some, refl, sym, ap, subst, arith, length-append, append_assoc}
use Rattle.rescue.proofs.Common.{eqb-true, eqb-false, get_or_append_left, append-nil, take_more, All-append, All-from_recursion, AllPairs, slice_get, Chrn, BeginsWith, line_text, log_text, IsLogLine, IsBefore, IsLog, IsAfterLast, IsFirstBadLine, LogLine}
use Rattle.std.proofs.lemmas.List.Concat.{flat_map-append}
use Rattle.std.proofs.lemmas.List.Quantifiers.{all_pairs_push}
use Rattle.std.proofs.lemmas.Option.{slice_get-get_or}
use Rattle.std.proofs.Math.Seq.{get_or-append_seam}
use Rattle.rescue.proofs.TextLemmas.{begins_with_one}

-- the record of one line is before that of another
abbrev pub Before : LogLine → LogLine → Type 0
Before a b = IsBefore a.key b.key

before_trans : (a b c : Chrn) → IsBefore a b → IsBefore b c → IsBefore a c
before_trans a b c h k = grind arith

at_last : (lines : List LogLine) (d : LogLine) → 0 < length lines → slice_get lines (length lines - 1) ≡ Some (get_or lines (length lines - 1) d)
at_last lines d some = slice_get-get_or lines (length lines - 1) d (omega arith)

after_last : (lines : List LogLine) (line d : LogLine) → 0 < length lines → IsAfterLast lines line → Before (get_or lines (length lines - 1) d) line
after_last lines line d some after = rw (at_last lines d some) at after

-- if a line's record is after the last one, it is after each
earlier : (lines : List LogLine) (line : LogLine) → AllPairs Before lines → IsAfterLast lines line
    → (k : ℕ) (d : LogLine) → k < length lines → Before (get_or lines k d) line
earlier lines line rising after k d inside = by_test (eqb k (length lines - 1)) refl
  where
    by_test : (t : Bool) → eqb k (length lines - 1) ≡ t → Before (get_or lines k d) line
    by_test true e =
        let last : length lines - 1 ≡ k = sym (eqb-true k (length lines - 1) e) in
        subst (λ (i : ℕ). Before (get_or lines i d) line) last (after_last lines line d (omega arith) after)
    by_test false e =
        let other : k ≡ length lines - 1 → ⊥ = eqb-false k (length lines - 1) e in
        before_trans (get_or lines k d).key (get_or lines (length lines - 1) d).key line.key
        (rising k (length lines - 1) d (omega (arith, other)) (omega arith)) (after_last lines line d (omega arith) after)

-- a log, and a line that may follow it, are a log
pub log_more : (sectors : ℕ) (lines : List LogLine) (line : LogLine) → IsLog sectors lines → IsLogLine sectors line → IsAfterLast lines line
    → IsLog sectors (lines ++ line ∷ [])
log_more sectors lines line log valid after = record {
  each = All-append (IsLogLine sectors) lines (line ∷ []) log.each (All-from_recursion (IsLogLine sectors) (line ∷ []) (valid, tt));
  rising = all_pairs_push Before lines line log.rising (earlier lines line log.rising after);
}

-- the last line of a log is such a line
pub last_valid : (sectors : ℕ) (lines : List LogLine) (line : LogLine) → IsLog sectors (lines ++ line ∷ []) → IsLogLine sectors line
last_valid sectors lines line log =
    subst (IsLogLine sectors) (get_or-append_seam lines line [] line)
    (log.each (length lines) line (omega (arith, length-append lines (line ∷ []))))

pub last_after : (sectors : ℕ) (lines : List LogLine) (line : LogLine) → IsLog sectors (lines ++ line ∷ []) → IsAfterLast lines line
last_after sectors [] line log = tt
last_after sectors (first ∷ others) line log =
    let lines : List LogLine = first ∷ others in
    let pair = log.rising (length lines - 1) (length lines) line (omega arith) (omega (arith, length-append lines (line ∷ []))) in
    let low = get_or_append_left lines (line ∷ []) line (length lines - 1) (omega arith) in
    let high = get_or-append_seam lines line [] line in
    let before : Before (get_or lines (length lines - 1) line) line =
    subst (λ (a : LogLine). Before a line) low (subst (λ (b : LogLine). Before (get_or (lines ++ line ∷ []) (length lines - 1) line) b) high pair) in
    rw (at_last lines line (omega arith)) before

pub log_empty : (sectors : ℕ) → IsLog sectors []
log_empty sectors = record { each = λ k d h. absurd (omega arith); rising = λ i j d h k. absurd (omega arith) }

-- the text of one more line
pub text_more : (lines : List LogLine) (line : LogLine) (rest : List ℕ) → log_text (lines ++ line ∷ []) ++ rest ≡ log_text lines ++ (line_text line ++ (10 ∷ rest))
text_more lines line rest =
    rw (flat_map-append (λ (l : LogLine). line_text l ++ 10 ∷ []) lines (line ∷ [])) (rest_of (log_text lines) (line_text line))
  where
    rest_of : (front text : List ℕ) → (front ++ ((text ++ 10 ∷ []) ++ [])) ++ rest ≡ front ++ (text ++ (10 ∷ rest))
    rest_of front text = simp append_assoc

pub text_upto : (lines : List LogLine) (i : ℕ) (d : LogLine) → i < length lines
    → log_text (take (i + 1) lines) ≡ log_text (take i lines) ++ (line_text (get_or lines i d) ++ 10 ∷ [])
text_upto lines i d inside =
    rw (take_more lines i d inside, flat_map-append (λ (l : LogLine). line_text l ++ 10 ∷ []) (take i lines) (get_or lines i d ∷ []))
    (ap (λ (end : List ℕ). log_text (take i lines) ++ end) (append-nil (line_text (get_or lines i d) ++ 10 ∷ [])))

-- a line whose record isn't after the last one is bad
pub first_bad_order : (sectors : ℕ) (text rest others : List ℕ) (lines : List LogLine) (line : LogLine) → sectors < 256 → text ≡ log_text lines ++ rest
    → IsLog sectors lines → 0 < length rest → BeginsWith sectors rest line others → (IsAfterLast lines line → ⊥) → IsFirstBadLine sectors text (length lines + 1)
first_bad_order sectors text rest others lines line small begins good more next out = record {
  lines = lines;
  rest = rest;
  begins = begins;
  good = good;
  number = refl;
  more = more;
  bad = λ other behind is log.
      let same = begins_with_one sectors rest other line behind others small (record { begins = is; valid = last_valid sectors lines other log }) next in
      out (subst (IsAfterLast lines) same (last_after sectors lines other log));
}

-- less is left after a line
pub less_left : (rest text others : List ℕ) → rest ≡ text ++ (10 ∷ others) → length others + 1 ≤ length rest
less_left rest text others h = omega (arith, ap length h, length-append text (10 ∷ others))
