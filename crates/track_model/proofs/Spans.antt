-- The look at an address field is settled within its span.
use Rattle.std.proofs.Common.{ℕ, ◌+◌, Bool, List, subst, arith}
use Rattle.track_model.proofs.Common.{Look, Found, NoData, BadCrc, IsDataMark, data_cells, content_at, IsWhole, IsFirstDataMark, HasDataField, IsIntact, LookAt, span_cells}
use Rattle.track_model.proofs.Frames.{AreSame, same_back, same_within, same_data_mark, same_whole}

module _ (track other : List ℕ) (a n : ℕ) (s : AreSame track other a (span_cells n)) where
  mark_within : (q : ℕ) (deleted : Bool) → IsDataMark track a q deleted → AreSame track other q 64
  mark_within q deleted mark =
      let after = mark.after in
      let near = mark.near in
      same_within track other a (span_cells n) q 64 (omega arith) (omega arith) s

  same_mark : (q : ℕ) (deleted : Bool) → IsDataMark track a q deleted → IsDataMark other a q deleted
  same_mark q deleted mark = same_data_mark track other a q deleted (mark_within q deleted mark) mark

-- a whole data field, whatever its content
pub intact_of : (track : List ℕ) (q n : ℕ) (content : List ℕ) → IsWhole track q n content → IsIntact track q n
intact_of track q n content whole = subst (IsWhole track q n) whole.content_is whole

module _ (track other : List ℕ) (a n : ℕ) (s : AreSame track other a (span_cells n)) where
  same_first : (q : ℕ) (deleted : Bool) → IsFirstDataMark track a q deleted → IsFirstDataMark other a q deleted
  same_first q deleted first = record {
    mark = same_mark track other a n s q deleted first.mark;
    none_before = λ k kind l mark.
        first.none_before k kind l (same_mark other track a n (same_back track other a (span_cells n) s) k kind mark);
  }

  same_field : (q : ℕ) (deleted : Bool) → HasDataField track a n q deleted → HasDataField other a n q deleted
  same_field q deleted field = record {
    coded = field.coded;
    first = same_first q deleted field.first;
    inside = let lengths = s.lengths in let inside = field.inside in omega arith;
  }

  same_intact : (q : ℕ) (deleted : Bool) → HasDataField track a n q deleted → IsIntact track q n → IsIntact other q n
  same_intact q deleted field whole =
      let after = field.first.mark.after in
      let near = field.first.mark.near in
      let within = same_within track other a (span_cells n) q (data_cells n) (omega arith) (omega arith) s in
      intact_of other q n (content_at track (q + 64) n) (same_whole track other q n (content_at track (q + 64) n) within whole)

pub same_look : (track other : List ℕ) (a n : ℕ) (look : Look) → AreSame track other a (span_cells n) → LookAt track a n look → LookAt other a n look
same_look track other a n (Found deleted place) s x =
    (x.0, same_field track other a n s x.0 deleted x.1, x.2, same_intact track other a n s x.0 deleted x.1 x.3)
same_look track other a n BadCrc s x =
    let back = same_back track other a (span_cells n) s in
    let field = same_field track other a n s x.0 x.1.0 x.1.1 in
    (x.0, (x.1.0, field), λ whole. x.2 (same_intact other track a n back x.0 x.1.0 field whole))
same_look track other a n NoData s x =
    λ q deleted field. x q deleted (same_field other track a n (same_back track other a (span_cells n) s) q deleted field)
same_look track other a n _ s x = absurd x
