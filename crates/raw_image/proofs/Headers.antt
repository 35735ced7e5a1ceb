-- A header that tells of a medium is the header of that medium, and the other way round.
use Rattle.std.proofs.Common.{◌≡◌, ℕ, ◌+◌, ◌*◌, ◌/◌, ◌%◌, ◌≤◌, Bool, true, false, cond, eqb, leb, ◌&&◌, List, [], ◌∷◌, ◌++◌, length, get_or, drop, refl, sym, ap, subst, ◌∙◌, arith, Option, Some, None, Result, Ok, Err, length-drop, ◌⊎◌, inl, inr}
use Rattle.raw_image.proofs.Common.{starts_with, eqb-true, leb-true, le-leb, and_parts, get_or-drop, ImageError, BadMagic, BadField, Version, First, Second, Header, field, magic, version_of, protection_of, rate_of, within, flag, rate_byte, header_bytes, disk_of}
use Rattle.std.specs.Option.{ok_or}
use Rattle.std.proofs.lemmas.Bool.Decides.{Decides-eqb}
use Rattle.std.proofs.lemmas.Slice.Eq.{starts_is, text_from_reads}
use Rattle.flop_base.specs.declared.answers.Rate.{Rate}
use Rattle.flop_base.specs.declared.answers.Rate.TheVariants.{R500, R250}
use Rattle.raw_image.specs.Header.{◌>>=◌, header_of}
use Rattle.raw_image.proofs.Pairs.{IsBytes}

abbrev done : Header → Result Header ImageError
done h = Ok h

-- ---- what is read

-- the value of a step that didn't fail
pub bind_ok : {A B : Type 0} (r : Result A ImageError) (f : A → Result B ImageError) (y : B) → (r >>= f) ≡ Ok y → (x : A) × (r ≡ Ok x) × (f x ≡ Ok y)
bind_ok (Ok x) f y e = (x, refl, e)
bind_ok (Err d) f y e = absurd cc

given_ok : {A : Type 0} (o : Option A) (e : ImageError) (x : A) → ok_or o e ≡ Ok x → o ≡ Some x
given_ok None e x same = absurd cc
given_ok (Some y) e x same = cc

-- the value of a choice that has one
chosen : {A : Type 0} (b : Bool) (x y : A) (rest : Option A) → cond b (Some x) rest ≡ Some y → ((b ≡ true) × (x ≡ y)) ⊎ ((b ≡ false) × (rest ≡ Some y))
chosen true x y rest e = inl (refl, cc)
chosen false x y rest e = inr (refl, e)

only_chosen : {A : Type 0} (b : Bool) (x y : A) → cond b (Some x) None ≡ Some y → (b ≡ true) × (x ≡ y)
only_chosen true x y e = (refl, cc)
only_chosen false x y e = absurd cc

within_is : (least most n m : ℕ) → within least most n ≡ Some m → (n ≡ m) × (least ≤ m) × (m ≤ most)
within_is least most n m e =
    let c = only_chosen (leb least n && leb n most) n m e in
    let t = and_parts (leb least n) (leb n most) c.0 in
    let low = leb-true least n t.0 in
    let high = leb-true n most t.1 in
    (c.1, omega (arith, c.1, low), omega (arith, c.1, high))

protection_is : (byte : ℕ) (p : Bool) → protection_of byte ≡ Some p → byte ≡ flag p
protection_is byte p e =
    elim (chosen (eqb byte 0) false p (cond (eqb byte 1) (Some true) None) e) [
      | inl off ↦ eqb-true byte 0 off.0 ∙ ap flag off.1
      | inr rest ↦ (let on = only_chosen (eqb byte 1) true p rest.1 in eqb-true byte 1 on.0 ∙ ap flag on.1)
    ]

-- version 1 can tell no other rate than 500 kbit/s
abbrev pub CanTell : Version → Rate → Type 0
CanTell First rate = rate ≡ R500
CanTell Second rate = Unit {0}

rate_is : (version : Version) (byte : ℕ) (r : Rate) → rate_of version byte ≡ Some r → (byte ≡ rate_byte r) × CanTell version r
rate_is First byte r e =
    let c = only_chosen (eqb byte 0) R500 r e in
    (eqb-true byte 0 c.0 ∙ ap rate_byte c.1, sym c.1)
rate_is Second byte r e =
    elim (chosen (eqb byte 0) R500 r (cond (eqb byte 2) (Some R250) None) e) [
      | inl slow ↦ (eqb-true byte 0 slow.0 ∙ ap rate_byte slow.1, tt)
      | inr rest ↦ (let fast = only_chosen (eqb byte 2) R250 r rest.1 in (eqb-true byte 2 fast.0 ∙ ap rate_byte fast.1, tt))
    ]

version_is : (bytes : List ℕ) (v : Version) → version_of bytes ≡ Some v → bytes ≡ magic v ++ drop 8 bytes
version_is bytes v e =
    elim (chosen (starts_with eqb bytes (magic First)) First v (cond (starts_with eqb bytes (magic Second)) (Some Second) None) e) [
      | inl first ↦ subst (λ (w : Version). bytes ≡ magic w ++ drop 8 bytes) first.1 ((starts_is Decides-eqb bytes (magic First) (starts_with eqb bytes (magic First)) refl).0 first.0)
      | inr rest ↦ (let second = only_chosen (starts_with eqb bytes (magic Second)) Second v rest.1 in
          subst (λ (w : Version). bytes ≡ magic w ++ drop 8 bytes) second.1 ((starts_is Decides-eqb bytes (magic Second) (starts_with eqb bytes (magic Second)) refl).0 second.0))
    ]

-- the steps of reading a header, each together with the steps after it
abbrev words_then : List ℕ → Bool → ℕ → ℕ → Rate → Result Header ImageError
words_then bytes p c h r =
    field 12 (within 64 16384 (256 * get_or bytes 12 0 + get_or bytes 13 0)) >>= λ w. Ok (record { protected = p; cylinders = c; heads = h; rate = r; words_per_track = w })

abbrev rate_then : List ℕ → Version → Bool → ℕ → ℕ → Result Header ImageError
rate_then bytes v p c h = field 11 (rate_of v (get_or bytes 11 0)) >>= words_then bytes p c h

abbrev heads_then : List ℕ → Version → Bool → ℕ → Result Header ImageError
heads_then bytes v p c = field 10 (within 1 2 (get_or bytes 10 0)) >>= rate_then bytes v p c

abbrev cylinders_then : List ℕ → Version → Bool → Result Header ImageError
cylinders_then bytes v p = field 9 (within 1 80 (get_or bytes 9 0)) >>= heads_then bytes v p

abbrev flags_then : List ℕ → Version → Result Header ImageError
flags_then bytes v = field 8 (protection_of (get_or bytes 8 0)) >>= cylinders_then bytes v

-- the ranges of a header
pub record IsHeader (h : Header) : Type 0 where
  pub cylinders : (1 ≤ h.cylinders) × (h.cylinders ≤ 80)
  pub heads : (1 ≤ h.heads) × (h.heads ≤ 2)
  pub words_per_track : (64 ≤ h.words_per_track) × (h.words_per_track ≤ 16384)

-- the bytes are a header of this version, and tell this header's fields
pub record IsHeaderOf (v : Version) (bytes : List ℕ) (h : Header) : Type 0 where
  pub spelled : bytes ≡ header_bytes v (disk_of h [])
  pub tells : CanTell v h.rate
  pub ranges : IsHeader h

-- the last six bytes of a header
six : (bytes : List ℕ) (a b c d e f : ℕ) → length bytes ≡ 14 → get_or bytes 8 0 ≡ a → get_or bytes 9 0 ≡ b → get_or bytes 10 0 ≡ c → get_or bytes 11 0 ≡ d → get_or bytes 12 0 ≡ e → get_or bytes 13 0 ≡ f
    → drop 8 bytes ≡ a ∷ b ∷ c ∷ d ∷ e ∷ f ∷ []
six bytes a b c d e f len ea eb ec ed ee ef =
    text_from_reads (drop 8 bytes) (a ∷ b ∷ c ∷ d ∷ e ∷ f ∷ []) (omega (arith, len, length-drop 8 bytes))
    (get_or-drop 8 bytes 0 0 ∙ ea, (get_or-drop 8 bytes 1 0 ∙ eb, (get_or-drop 8 bytes 2 0 ∙ ec, (get_or-drop 8 bytes 3 0 ∙ ed, (get_or-drop 8 bytes 4 0 ∙ ee, (get_or-drop 8 bytes 5 0 ∙ ef, tt))))))

pub header_found : (bytes : List ℕ) (h : Header) → IsBytes bytes → length bytes ≡ 14 → header_of bytes ≡ Ok h → (v : Version) × IsHeaderOf v bytes h
unfolding header_of
header_found bytes h fits len e =
    let v = bind_ok (ok_or (version_of bytes) BadMagic) (flags_then bytes) h e in
    let p = bind_ok (field 8 (protection_of (get_or bytes 8 0))) (cylinders_then bytes v.0) h v.2 in
    let c = bind_ok (field 9 (within 1 80 (get_or bytes 9 0))) (heads_then bytes v.0 p.0) h p.2 in
    let s = bind_ok (field 10 (within 1 2 (get_or bytes 10 0))) (rate_then bytes v.0 p.0 c.0) h c.2 in
    let r = bind_ok (field 11 (rate_of v.0 (get_or bytes 11 0))) (words_then bytes p.0 c.0 s.0) h s.2 in
    let w = bind_ok (field 12 (within 64 16384 (256 * get_or bytes 12 0 + get_or bytes 13 0))) (λ w. Ok (record { protected = p.0; cylinders = c.0; heads = s.0; rate = r.0; words_per_track = w })) h r.2 in
    let v_is = version_is bytes v.0 (given_ok (version_of bytes) BadMagic v.0 v.1) in
    let p_is = protection_is (get_or bytes 8 0) p.0 (given_ok _ (BadField 8) p.0 p.1) in
    let c_is = within_is 1 80 (get_or bytes 9 0) c.0 (given_ok _ (BadField 9) c.0 c.1) in
    let s_is = within_is 1 2 (get_or bytes 10 0) s.0 (given_ok _ (BadField 10) s.0 s.1) in
    let r_is = rate_is v.0 (get_or bytes 11 0) r.0 (given_ok _ (BadField 11) r.0 r.1) in
    let w_is = within_is 64 16384 (256 * get_or bytes 12 0 + get_or bytes 13 0) w.0 (given_ok _ (BadField 12) w.0 w.1) in
    let high_fits = fits 12 in
    let low_fits = fits 13 in
    let high : get_or bytes 12 0 ≡ w.0 / 256 % 256 = omega (arith, high_fits, low_fits, w_is.0) in
    let low : get_or bytes 13 0 ≡ w.0 % 256 = omega (arith, high_fits, low_fits, w_is.0) in
    let tail = six bytes (flag p.0) c.0 s.0 (rate_byte r.0) (w.0 / 256 % 256) (w.0 % 256) len p_is c_is.0 s_is.0 r_is.0 high low in
    let told : Header = record { protected = p.0; cylinders = c.0; heads = s.0; rate = r.0; words_per_track = w.0 } in
    let made : IsHeaderOf v.0 bytes told = record {
      spelled = spelled_by v.0 told bytes v_is tail;
      tells = r_is.1;
      ranges = record { cylinders = (c_is.1, c_is.2); heads = (s_is.1, s_is.2); words_per_track = (w_is.1, w_is.2) };
    } in
    (v.0, subst (λ (x : Header). IsHeaderOf v.0 bytes x) (same_ok told h w.2) made)
  where
    spelled_by : (v : Version) (h : Header) (bytes : List ℕ) → bytes ≡ magic v ++ drop 8 bytes
        → drop 8 bytes ≡ flag h.protected ∷ h.cylinders ∷ h.heads ∷ rate_byte h.rate ∷ h.words_per_track / 256 % 256 ∷ h.words_per_track % 256 ∷ []
        → bytes ≡ header_bytes v (disk_of h [])
    spelled_by v h bytes front tail = front ∙ ap (λ (bs : List ℕ). magic v ++ bs) tail

    same_ok : (x y : Header) → done x ≡ done y → x ≡ y
    same_ok x y e = cc

-- ---- what is written

within_at : (least most n : ℕ) → least ≤ n → n ≤ most → within least most n ≡ Some n
within_at least most n low high = rw (le-leb least n low, le-leb n most high) refl

protection_at : (p : Bool) → protection_of (flag p) ≡ Some p
protection_at true = refl
protection_at false = refl

rate_at : (v : Version) (r : Rate) → CanTell v r → rate_of v (rate_byte r) ≡ Some r
rate_at First R500 can = refl
rate_at First R250 can = absurd cc
rate_at Second R500 can = refl
rate_at Second R250 can = refl

pub header_again : (v : Version) (h : Header) → CanTell v h.rate → IsHeader h → header_of (header_bytes v (disk_of h [])) ≡ Ok h
unfolding header_of
header_again First h can ranges =
    let w = h.words_per_track in
    let word : 256 * (w / 256 % 256) + w % 256 ≡ w = omega (arith, ranges.words_per_track) in
    rw (protection_at h.protected, within_at 1 80 h.cylinders ranges.cylinders.0 ranges.cylinders.1, within_at 1 2 h.heads ranges.heads.0 ranges.heads.1, rate_at First h.rate can, word, within_at 64 16384 w ranges.words_per_track.0 ranges.words_per_track.1) refl
header_again Second h can ranges =
    let w = h.words_per_track in
    let word : 256 * (w / 256 % 256) + w % 256 ≡ w = omega (arith, ranges.words_per_track) in
    rw (protection_at h.protected, within_at 1 80 h.cylinders ranges.cylinders.0 ranges.cylinders.1, within_at 1 2 h.heads ranges.heads.0 ranges.heads.1, rate_at Second h.rate can, word, within_at 64 16384 w ranges.words_per_track.0 ranges.words_per_track.1) refl
