-- What a read finds on a formatted track: laws over the definition of a layout.
use Rattle.std.proofs.Common.{◌≡◌, ◌≢◌, ℕ, ◌+◌, ◌<◌, ◌≤◌, false, List, ◌++◌, All, length, take, get_or, replicate, arith, sym, ap, subst, ◌∙◌, inl, inr}
use Rattle.track_format.proofs.Common.{AllPairs, Contains, cases_order, length-append, length-replicate, length-take, Chrn, Found, Byte, IsAddressMark, IsAddressAt, IsSizeCode, content_size, content_at, LookAt, IsPlain, IsLone, IsSpaced, IsRegular, gap, track_symbols, Fits, sector_place, content_place, HasLaidFields, IsKey, HasEndRoom, one_key, one_deleted, IsParted, length-recorded}
use Rattle.std.proofs.lemmas.List.Elements.{Contains-get_or}
use Rattle.track_model.specs.Layouts.{lay}
use Rattle.track_model.proofs.Sectored.{plain_clear}
use Rattle.track_model.proofs.Sizes.{content_size_least}
use Rattle.track_format.specs.Reads.{HasClearField, AllFilled, HoldsFill}
use Rattle.track_format.proofs.Placed.{address_is, content_is}
use Rattle.track_format.proofs.Found.{plain, look, lone, only, parted, spaced, regular}

pub no_key : Chrn
no_key = record { c = 0; h = 0; r = 0; n = 0 }

-- a formatted track is as long as was asked, also where the sectors don't fit
pub length-lay : (keys : List Chrn) (n gap3 fill words : ℕ) → length (lay keys n gap3 fill words) ≡ words
unfolding lay
length-lay keys n gap3 fill words =
    let symbols = track_symbols keys n gap3 fill in
    omega (arith, length-recorded false (take words (symbols ++ gap words)), length-take words (symbols ++ gap words), length-append symbols (gap words), length-replicate words (Byte 0x4E))

module _ (keys : List Chrn) (n gap3 fill words : ℕ) (fits : Fits keys n gap3 words) where
  -- a formatted track is Plain
  pub read_plain : IsPlain (lay keys n gap3 fill words)
  unfolding lay
  read_plain = plain n gap3 fill keys no_key words fits

  -- it has exactly the requested sectors, each at its place, with the fill byte
  pub read_fields : IsSizeCode n → fill < 256 → All (λ key. IsKey key) keys → HasLaidFields (lay keys n gap3 fill words) keys n gap3 fill
  unfolding lay
  read_fields coded fit bytes = record {
    each = λ i d h. address_is n gap3 fill keys d words fits i h (bytes i d h);
    only = λ p key address.
        let at = only n gap3 fill keys no_key words fits (λ i h. bytes i no_key h) p key address in (at.0, at.1, at.2);
    found = λ i h. look n gap3 fill keys no_key words fits i h fit coded;
    filled = λ i h. content_is n gap3 fill keys no_key words fits i h fit;
  }

  -- if there is room at its end, a write over one sector reaches no other
  pub read_parted : IsSizeCode n → All (λ key. IsKey key) keys → All (λ key. key.n ≡ n) keys → HasEndRoom (length keys) n gap3 words → IsParted (lay keys n gap3 fill words)
  unfolding lay
  read_parted coded bytes asked room = parted n gap3 fill keys no_key words fits (λ i h. bytes i no_key h) coded (λ i h. asked i no_key h) room

  -- if gap 3 is also wide, the sectors keep their distance
  pub read_spaced : IsSizeCode n → All (λ key. IsKey key) keys → All (λ key. key.n ≡ n) keys → 16 ≤ gap3 → HasEndRoom (length keys) n gap3 words → IsSpaced (lay keys n gap3 fill words)
  unfolding lay
  read_spaced coded bytes asked wide room =
      spaced n gap3 fill keys no_key words fits (λ i h. bytes i no_key h) coded (λ i h. asked i no_key h) room wide

  -- if the keys are also distinct, and of one cylinder and head, the track is regular
  pub read_regular : IsSizeCode n → All (λ key. IsKey key) keys → All (λ key. key.n ≡ n) keys → 16 ≤ gap3 → (c h : ℕ) → HasEndRoom (length keys) n gap3 words → AllPairs (λ a b. a ≢ b) keys → All (λ key. (key.c ≡ c) × (key.h ≡ h)) keys → IsRegular (lay keys n gap3 fill words) c h
  unfolding lay
  read_regular coded bytes asked wide c h room distinct one =
      regular n gap3 fill keys no_key words fits (λ i l. bytes i no_key l) coded (λ i l. asked i no_key l) room wide c h
      (λ i j a b same.
      elim (cases_order i j) [
        | inl e ↦ e
        | inr (inl before) ↦ absurd (distinct i j no_key before b same)
        | inr (inr after) ↦ absurd (distinct j i no_key after a (sym same))
      ])
      (λ i l. one i no_key l)

  -- ---- what a read of a key finds

  abbrev track : List ℕ
  track = lay keys n gap3 fill words

  -- each address field is that of an asked key
  pub read_only : IsSizeCode n → fill < 256 → All (λ key. IsKey key) keys → (p : ℕ) (key : Chrn) → IsAddressAt track p key → Contains keys key
  read_only coded fit bytes p key address =
      let fields = read_fields coded fit bytes in
      let at = fields.only p key address in
      let here : IsAddressAt track (sector_place n gap3 at.0) key = subst (λ k. IsAddressAt track k key) at.2 address in
      let same = one_key track (sector_place n gap3 at.0) (get_or keys at.0 no_key) key (fields.each at.0 no_key at.1) here in
      subst (Contains keys) same (Contains-get_or keys at.0 no_key at.1)

  -- each asked key has a Clear address field
  pub read_clear : IsSizeCode n → fill < 256 → All (λ key. IsKey key) keys → All (λ key. HasClearField track key) keys
  read_clear coded fit bytes i d h =
      let address = (read_fields coded fit bytes).each i d h in
      (sector_place n gap3 i, plain_clear track (sector_place n gap3 i) read_plain address.mark, address)

  -- the look at each address field of a key finds the fill byte
  pub read_filled : IsSizeCode n → fill < 256 → All (λ key. IsKey key) keys → (key : Chrn) → key.n ≡ n → AllFilled track key fill
  read_filled coded fit bytes key sized p address =
      let fields = read_fields coded fit bytes in
      let at = fields.only p key address in
      let place = content_place n gap3 at.0 in
      let For : ℕ → ℕ → Type 0 = λ q size. LookAt track q size (Found false place) × (content_at track place size ≡ replicate (content_size size) fill) in
      let here : For p key.n = subst (λ q. For q key.n) (sym at.2) (subst (λ size. For (sector_place n gap3 at.0) size) (sym sized) (fields.found at.0 at.1, fields.filled at.0 at.1)) in
      (place, here.0, here.1)

  -- no address field has a second data mark
  pub read_lone : IsSizeCode n → (p : ℕ) → IsAddressMark track p → IsLone track p
  unfolding lay
  read_lone coded p mark = lone n gap3 fill keys no_key words fits p (content_size_least n coded.0) mark

  -- so nothing but the fill byte is under a key
  pub read_holds : IsSizeCode n → fill < 256 → All (λ key. IsKey key) keys → (key : Chrn) → key.n ≡ n → HoldsFill track key fill
  read_holds coded fit bytes key sized deleted content (p, q, address, mark, whole) =
      let (place, found, is) = read_filled coded fit bytes key sized p address in
      let first = found.1.first.mark in
      let same : q ≡ found.0 = read_lone coded p address.mark q found.0 deleted false mark first in
      let here : q + 64 ≡ place = ap (λ k. k + 64) same ∙ sym found.2 in
      (one_deleted track p q found.0 deleted false mark first same, whole.content_is ∙ ap (λ k. content_at track k key.n) here ∙ is)
