-- Revolutions that were heard.
use Rattle.std.proofs.Common.{◌≡◌, inl, inr, ℕ, List, [], ◌∷◌, sym, subst, arith, ◌+◌, ◌-◌, ◌*◌, length, drop, ◌∙◌}
use Rattle.fdc_core.proofs.Common.{IsAmong, IsTurnIn, Past, IsBetween, AreHeard, AreHeardWhole, IsHeard, IsHeardFrom, IsHeardWhole, IsWholeFrom, start_of, get_or-drop, length-drop, Chrn, BadCrc, NoData, IsPart, FindsBadCheck, FindsNoField}
use Rattle.fdc_core.proofs.drives.Fields.{turn_is, address_heard, bad_on, none_on}
use Rattle.sector_map.specs.Met.{HasLook}

among_heard : (track : List ℕ) (from : ℕ) (turns : List (List ℕ)) (turn : List ℕ) → AreHeard track from turns → IsAmong turns turn
    → (start : ℕ) × IsHeard track start turn × (AreHeardWhole track from turns → IsHeardWhole track start turn)
among_heard track from [] turn all among = absurd among
among_heard track from (last ∷ turns) turn (heard, end, others) among = elim among [
  | inl is ↦ (start_of from turns, subst (IsHeard track (start_of from turns)) (sym is) heard, λ whole. subst (IsHeardWhole track (start_of from turns)) (sym is) whole.0)
  | inr earlier ↦ let (start, is, is_whole) = among_heard track from turns turn others earlier in (start, is, λ whole. is_whole whole.1)
]

pub turn_heard : (track : List ℕ) (from : ℕ) (turns : List (List ℕ)) (seen turn : List ℕ) → IsHeardFrom track from turns seen → IsTurnIn turns seen turn
    → (start : ℕ) × IsHeard track start turn × (IsWholeFrom track from turns seen → IsHeardWhole track start turn)
turn_heard track from turns seen turn heard among = elim among [
  | inl is ↦ (start_of from turns, subst (IsHeard track (start_of from turns)) (sym is) heard.now, λ whole. subst (IsHeardWhole track (start_of from turns)) (sym is) whole.now)
  | inr earlier ↦ let (start, is, is_whole) = among_heard track from turns turn heard.over earlier in (start, is, λ whole. is_whole whole.over)
]

-- if the words between two indexes were heard whole, they are the track
pub between_is : (track : List ℕ) (from : ℕ) (past : Past) (between : List ℕ) → IsHeardFrom track from past.turns past.seen → IsWholeFrom track from past.turns past.seen → IsBetween past between
    → between ≡ track
between_is track from past between heard whole is =
    let over : AreHeard track from (between ∷ is.first ∷ []) = subst (AreHeard track from) is.turns heard.over in
    let all : AreHeardWhole track from (between ∷ is.first ∷ []) = subst (AreHeardWhole track from) is.turns whole.over in
    let end = over.1 in
    turn_is track between all.0 (omega arith)

-- ---- data fields that aren't whole, or aren't there, in words that were all heard

module _ (track : List ℕ) (from : ℕ) (past : Past) (key : Chrn) (heard : IsHeardFrom track from past.turns past.seen) (whole : IsWholeFrom track from past.turns past.seen) where
  -- a field whose CRC is wrong
  pub bad_met : FindsBadCheck past key → HasLook track key BadCrc
  bad_met (turn, p, has, look) =
      let (start, turned, turned_whole) = turn_heard track from past.turns past.seen turn heard has.among in
      (p + 16 * start, address_heard track start turn turned p key has.address, bad_on track start turn (turned_whole whole) turned.inside p key.n look)

  -- an address field that no data field follows: its revolution is over, or goes on as the track does
  pub no_field_met : FindsNoField past key → HasLook track key NoData
  no_field_met (inl (turn, p, over, address, look)) =
      let heard_over : AreHeard track from (turn ∷ over.earlier) = subst (AreHeard track from) over.last heard.over in
      let whole_over : AreHeardWhole track from (turn ∷ over.earlier) = subst (AreHeardWhole track from) over.last whole.over in
      let start = start_of from over.earlier in (
        p + 16 * start,
        address_heard track start turn heard_over.0 p key address,
        none_on track start turn whole_over.0 heard_over.0.inside p key.n heard_over.1 look,
      )
  no_field_met (inr (p, without)) =
      let start = start_of from past.turns in
      let rest = drop start track in
      let long : length rest ≡ length track - start = length-drop start track in
      let room = heard.now.inside in
      let part : IsPart past.seen rest = record {
        longer = omega arith;
        same = λ k below. get_or-drop start track k 0 ∙ sym (whole.now.each k below);
      } in
      let on : IsHeardWhole track start rest = record { each = λ i below. get_or-drop start track i 0 } in
      let once : IsHeard track start rest = record { inside = omega arith; each = λ i below. inl (get_or-drop start track i 0) } in
      let (address, look) = without rest part in
      (p + 16 * start, address_heard track start rest once p key address, none_on track start rest on (omega arith) p key.n (omega arith) look)
