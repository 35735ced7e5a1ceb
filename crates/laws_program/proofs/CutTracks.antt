-- A regular track with a cut of a window that left it regular: each other field shows the same as before.
use Rattle.std.proofs.Common.{◌≡◌, ◌≢◌, ◌↔◌, ◌+◌, ◌≤◌, ℕ, ◌⊎◌, Bool, List, ◌∷◌, ◌++◌, length, take, sym, subst, arith, refl, inl, inr}
use Rattle.laws_program.proofs.Common.{cases_order, cases_eq, length-append, length-take, Chrn, Look, Found, NoData, BadCrc, after_marks, IsAddressAt, LookAt, IsRegular, span_cells, one_key, spaced_from}
use Rattle.track_model.specs.Crc.{crc}
use Rattle.track_model.specs.Marks.{data_byte}
use Rattle.track_model.specs.Writing.{check_bytes, window}
use Rattle.track_model.specs.Windows.{window_word, window_place, window_end, cut_of, IsFieldFor}
use Rattle.track_model.proofs.Cuts.{IsOverlay, fits, behind_end, kept_look}
use Rattle.track_model.proofs.Frames.{AreSame, same_back, same_address_at}
use Rattle.track_model.proofs.OwnField.{data_overlay}
use Rattle.track_model.proofs.Parted.{IsParted, spaced_parted}
use Rattle.laws_program.proofs.Shown.{Shows, ShowSame, show_answer}
use Rattle.track_model.proofs.Splices

module _ (track : List ℕ) (c h p : ℕ) (key : Chrn) (deleted : Bool) (content : List ℕ) (k : ℕ) (regular : IsRegular track c h) (field : IsFieldFor track p key content) (most : k ≤ length (window deleted content)) where
  abbrev after : List ℕ
  after = cut_of track p k (window deleted content)

  parted : IsParted track
  parted = spaced_parted track (spaced_from track c h regular)

  over : IsOverlay (window deleted content) key.n
  over =
      let sized = field.size in
      let check = crc (after_marks (data_byte deleted ∷ content)) in
      data_overlay deleted (content ++ check_bytes check) key.n (omega (arith, length-append content (check_bytes check)))

  inside : window_word p + length (take k (window deleted content)) ≤ length track
  inside = fits track p key (window deleted content) k parted field.address over most

  before : (q m : ℕ) → q + m ≤ window_place p → AreSame track after q m
  before q m low = Splices.same_before track (window_word p) (take k (window deleted content)) inside q m low

  behind : (q m : ℕ) → p + span_cells key.n ≤ q → AreSame track after q m
  behind q m high =
      let end = behind_end track p key (window deleted content) k parted field.address over most in
      let span : window_end p key.n + 64 ≤ p + span_cells key.n = omega arith in
      Splices.same_behind track (window_word p) (take k (window deleted content)) inside q m (omega (arith, end, span, length-take k (window deleted content)))

  -- an address field has the same cells, if it is this one, or doesn't reach into the span that begins with this one
  same_cells : (q : ℕ) → (q ≡ p) ⊎ (q + 160 ≤ p) ⊎ (p + span_cells key.n ≤ q) → AreSame track after q 160
  same_cells q (inl e) = before q 160 (omega arith)
  same_cells q (inr (inl low)) = before q 160 (omega arith)
  same_cells q (inr (inr high)) = behind q 160 high

  apart : (words : List ℕ) → IsRegular words c h → IsAddressAt words p key → (q : ℕ) (other : Chrn) → IsAddressAt words q other → (q ≡ p) ⊎ (q + 160 ≤ p) ⊎ (p + span_cells key.n ≤ q)
  apart words is here q other at =
      elim (cases_order q p) [
        | inl e ↦ inl e
        | inr (inl low) ↦ let far = is.spans.apart q p other key at here low in inr (inl (omega arith))
        | inr (inr high) ↦ inr (inr (is.spans.apart p q key other here at high))
      ]

  pub address_on : (q : ℕ) (other : Chrn) → IsAddressAt track q other → IsAddressAt after q other
  address_on q other at = same_address_at track after q other (same_cells q (apart track regular field.address q other at)) at

  -- the cut left the track regular
  module _ (still : IsRegular after c h) where
    pub address_back : (q : ℕ) (other : Chrn) → IsAddressAt after q other → IsAddressAt track q other
    address_back q other at =
        same_address_at after track q other
        (same_back track after q 160 (same_cells q (apart after still (address_on p key field.address) q other at))) at

    -- the other address fields show the same
    pub shows_on : (q : ℕ) (other : Chrn) (look : Look) → q ≢ p → IsAddressAt track q other → Shows track q other.n look ↔ Shows after q other.n look
    shows_on q other (Found mark place) not at = (
      λ x. (x.0, (kept_look track p key (window deleted content) k parted field.address over most q other (Found mark x.0) not at).0 x.1),
      λ x. (x.0, (kept_look track p key (window deleted content) k parted field.address over most q other (Found mark x.0) not at).1 x.1),
    )
    shows_on q other NoData not at = kept_look track p key (window deleted content) k parted field.address over most q other NoData not at
    shows_on q other BadCrc not at = kept_look track p key (window deleted content) k parted field.address over most q other BadCrc not at
    shows_on q other _ not at = (λ x. x, λ x. x)

-- a track that was written over at an address field of a key, and what is found there
pub record IsWrittenOver (track : List ℕ) (c h p : ℕ) (key : Chrn) (deleted : Bool) (now : List ℕ) : Type 0 where
  pub content : List ℕ
  pub words : ℕ
  pub regular : IsRegular track c h
  pub field : IsFieldFor track p key content
  pub most : words ≤ length (window deleted content)
  pub is : now ≡ cut_of track p words (window deleted content)
  pub still : IsRegular now c h
  pub place : ℕ
  pub found : LookAt now p key.n (Found deleted place)

-- what holds of such a track
pub record KeepsShown (track : List ℕ) (c h p : ℕ) (key : Chrn) (deleted : Bool) (now : List ℕ) : Type 0 where
  pub still : IsRegular now c h
  pub here : IsAddressAt now p key
  pub addresses : (q : ℕ) (other : Chrn) → IsAddressAt track q other ↔ IsAddressAt now q other
  pub shows : (q : ℕ) (other : Chrn) (look : Look) → q ≢ p → IsAddressAt track q other → Shows track q other.n look ↔ Shows now q other.n look
  pub found : Shows now p key.n (Found deleted 0)

pub written_keeps : (track : List ℕ) (c h p : ℕ) (key : Chrn) (deleted : Bool) (now : List ℕ) → IsWrittenOver track c h p key deleted now → KeepsShown track c h p key deleted now
written_keeps track c h p key deleted now over =
    let still : IsRegular (cut_of track p over.words (window deleted over.content)) c h = subst (λ (t : List ℕ). IsRegular t c h) over.is over.still in
    let kept : KeepsShown track c h p key deleted (cut_of track p over.words (window deleted over.content)) = record {
      still = still;
      here = address_on track c h p key deleted over.content over.words over.regular over.field over.most p key over.field.address;
      addresses = λ q other. (
        address_on track c h p key deleted over.content over.words over.regular over.field over.most q other,
        address_back track c h p key deleted over.content over.words over.regular over.field over.most still q other,
      );
      shows = shows_on track c h p key deleted over.content over.words over.regular over.field over.most still;
      found = (over.place, subst (λ (t : List ℕ). LookAt t p key.n (Found deleted over.place)) over.is over.found);
    } in
    subst (KeepsShown track c h p key deleted) (sym over.is) kept

-- two tracks that show the same, both written over at one address field with one mark, show the same again
module _ (one two : List ℕ) (c h p : ℕ) (key : Chrn) (deleted : Bool) (one_after two_after : List ℕ) (same : ShowSame one two) (first : KeepsShown one c h p key deleted one_after) (second : KeepsShown two c h p key deleted two_after) where
  shows_over : (q : ℕ) (other : Chrn) (look : Look) → IsAddressAt one_after q other → Shows one_after q other.n look ↔ Shows two_after q other.n look
  shows_over q other look at =
      let was = (first.addresses q other).1 at in
      let was_too = (same.addresses q other).0 was in
      elim (cases_eq q p) [
        | inr not ↦
            let a = first.shows q other look not was in
            let b = same.looks q other look was in
            let d = second.shows q other look not was_too in
            (λ x. d.0 (b.0 (a.1 x)), λ x. a.0 (b.1 (d.1 x)))
        | inl e ↦
            let there : IsAddressAt one_after p other = subst (λ (r : ℕ). IsAddressAt one_after r other) e at in
            let same_key : other ≡ key = one_key one_after p other key there first.here in
            subst (λ (r : ℕ). Shows one_after r other.n look ↔ Shows two_after r other.n look) (sym e)
            (subst (λ (k : Chrn). Shows one_after p k.n look ↔ Shows two_after p k.n look) (sym same_key) (
              show_answer one_after two_after p key.n (Found deleted 0) (Found deleted 0) look first.found second.found refl,
              show_answer two_after one_after p key.n (Found deleted 0) (Found deleted 0) look second.found first.found refl,
            ))
      ]

  pub written_show : (regular : (b g : ℕ) → IsRegular one_after b g ↔ IsRegular two_after b g) → ShowSame one_after two_after
  written_show regular = record {
    regular = regular;
    marks = (λ mark. (p, second.here.mark), λ mark. (p, first.here.mark));
    addresses = λ q other. (
      λ at. (second.addresses q other).0 ((same.addresses q other).0 ((first.addresses q other).1 at)),
      λ at. (first.addresses q other).0 ((same.addresses q other).1 ((second.addresses q other).1 at)),
    );
    looks = shows_over;
  }
