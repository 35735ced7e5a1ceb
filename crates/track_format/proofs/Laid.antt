-- A regular formatted track is Aligned. So a Laid track is Tidy for each write.
use Rattle.std.proofs.Common.{◌≡◌, ◌↔◌, ℕ, suc, ◌+◌, ◌*◌, ◌%◌, ◌<◌, ◌≤◌, Bool, false, List, eqb, length, get_or, sym, ap, subst, ◌∙◌, refl, arith}
use Rattle.track_format.proofs.Common.{get_or_default, Chrn, Byte, byte_at, last_bit, IsAddressAt, content_size, IsSpaced, IsRegular, IsKey, word_after, address_content, one_key, symbol_behind, get_or-recorded, byte_word_bit}
use Rattle.track_model.specs.Windows.{window_word, window_words, HasFieldFor, IsTidy}
use Rattle.track_model.specs.Layouts.{lay}
use Rattle.track_model.specs.Laid.{IsRegularLay, IsLaid}
use Rattle.track_model.specs.Torn.{IsTorn}
use Rattle.track_model.proofs.Recorded.{bit_behind}
use Rattle.track_model.proofs.Seams.{IsAlignedAt, IsSeam, IsAligned, unstopped}
use Rattle.track_model.proofs.Aligned.{aligned_tidy}
use Rattle.track_model.proofs.Torn.{whole_writes, whole_torn, torn_aligned, torn_addresses, torn_regular}
use Rattle.track_model.proofs.Laid.{comes_aligned, comes_addresses, comes_regular}
use Rattle.track_format.proofs.Parts.{filler, in_gap}
use Rattle.track_format.proofs.Tracked.{sector_words}
use Rattle.track_format.proofs.Runs.{are_words}
use Rattle.track_format.proofs.Placed.{cells, laid, length-cells, inside_of, at_address, address_is, first_byte, gap_byte}
use Rattle.track_format.proofs.Found.{only}
use Rattle.track_format.proofs.Read.{no_key, read_spaced, read_regular}

module _ (n gap3 fill : ℕ) (keys : List Chrn) (d : Chrn) (words : ℕ) (fits : 146 + length keys * sector_words (content_size n) gap3 ≤ words) where
  abbrev it : List ℕ
  it = laid n gap3 fill keys d words fits

  abbrev from : ℕ → ℕ
  from i = 146 + i * sector_words (content_size n) gap3

  -- after the word of a byte, the last bit is that of the byte
  byte_bit : (j byte : ℕ) → j < words → get_or (cells n gap3 fill keys d words fits) j filler ≡ Byte byte → bit_behind false it (suc j) ≡ last_bit byte
  unfolding bit_behind
  byte_bit j byte h is =
      let symbols = cells n gap3 fill keys d words fits in
      let within : j < length symbols = omega (arith, length-cells n gap3 fill keys d words fits) in
      ap (λ w. eqb (w % 2) 1)
      (get_or-recorded false symbols j within ∙ ap (word_after (symbol_behind false symbols j)) (get_or_default symbols j (Byte 0) filler within ∙ is))
      ∙ byte_word_bit (symbol_behind false symbols j) byte

  -- a data field begins where the window does
  aligned_at : (i : ℕ) → i < length keys → IsAlignedAt it (from i + 44)
  aligned_at i h =
      let room = inside_of n gap3 fill keys d words fits i 43 h (omega arith) in
      let here : suc (from i + 43) ≡ from i + 44 = omega arith in
      let symbol = at_address n gap3 fill keys d words fits i 43 (from i + 43) h (omega arith) refl ∙ in_gap (address_content (get_or keys i d)) 22 43 (omega arith) in
      let place : 16 * (from i + 44 + 15) ≡ 16 * (from i + 56) + 48 = omega arith in
      record {
        bit = ap (bit_behind false it) (sym here) ∙ byte_bit (from i + 43) 0x4E (omega arith) symbol;
        deleted = false;
        byte = ap (byte_at it) place ∙ first_byte n gap3 fill keys d words fits i h;
      }

  pub aligned : ((i : ℕ) → i < length keys → IsKey (get_or keys i d)) → ((i : ℕ) → i < length keys → (get_or keys i d).n ≡ n) → 1 ≤ gap3 → IsSpaced it → IsAligned unstopped it
  aligned are_keys asked wide spaced = record {
    spaced = spaced;
    words = are_words (content_size n) gap3 fill keys d words fits (IsSeam unstopped it);
    fields = λ p key address.
        let at = only n gap3 fill keys d words fits are_keys p key address in
        let e = at.2 in
        let place : from at.0 + 44 ≡ window_word p = omega arith in
        subst (IsAlignedAt it) place (aligned_at at.0 at.1);
    gaps = λ p key address.
        let at = only n gap3 fill keys d words fits are_keys p key address in
        let e = at.2 in
        let own = address_is n gap3 fill keys d words fits at.0 at.1 (are_keys at.0 at.1) in
        let keys_one = one_key it p key (get_or keys at.0 d) address (subst (λ q. IsAddressAt it q (get_or keys at.0 d)) (sym e) own) in
        let size : content_size key.n ≡ content_size n = ap (λ (k : Chrn). content_size k.n) keys_one ∙ ap content_size (asked at.0 at.1) in
        let place : 16 * (from at.0 + 62 + content_size n) ≡ 16 * (window_word p + window_words key.n) = omega arith in
        ap (byte_at it) (sym place) ∙ gap_byte n gap3 fill keys d words fits at.0 at.1 wide;
    short = λ p key address. omega arith;
  }

lay_aligned : (track : List ℕ) (keys : List Chrn) (n gap3 fill words : ℕ) → IsRegularLay track keys n gap3 fill words → IsAligned unstopped track
unfolding lay
lay_aligned track keys n gap3 fill words regular =
    subst (IsAligned unstopped) (sym regular.is)
    (aligned n gap3 fill keys no_key words regular.fits (λ i h. regular.bytes i no_key h) (λ i h. regular.asked i no_key h) (omega (arith, regular.wide))
    (read_spaced keys n gap3 fill words regular.fits regular.coded regular.bytes regular.asked regular.wide regular.room))

pub laid_aligned : (track : List ℕ) → IsLaid track → IsAligned unstopped track
laid_aligned track laid =
    let it = laid.lay in
    comes_aligned laid.formatted laid.writes track (lay_aligned laid.formatted it.0 it.1 it.2 it.3 it.4 it.5) laid.written

pub laid_tidy : (track : List ℕ) (p : ℕ) (deleted : Bool) (content : List ℕ) → IsLaid track → HasFieldFor track p content → IsTidy track p deleted content
laid_tidy track p deleted content laid field = aligned_tidy unstopped track p field.0 deleted content (laid_aligned track laid) field.1

-- a Laid track is Spaced
pub laid_spaced : (track : List ℕ) → IsLaid track → IsSpaced track
laid_spaced track laid = (laid_aligned track laid).spaced

-- a Laid track has the address fields of its layout
pub laid_addresses : (track : List ℕ) (laid : IsLaid track) (q : ℕ) (key : Chrn) → IsAddressAt laid.formatted q key ↔ IsAddressAt track q key
laid_addresses track laid q key =
    let it = laid.lay in
    comes_addresses laid.formatted laid.writes track (lay_aligned laid.formatted it.0 it.1 it.2 it.3 it.4 it.5) laid.written q key

lay_regular : (track : List ℕ) (keys : List Chrn) (n gap3 fill words : ℕ) → (regular : IsRegularLay track keys n gap3 fill words) → IsRegular track regular.together.0 regular.together.1
lay_regular track keys n gap3 fill words regular =
    let c = regular.together.0 in
    let h = regular.together.1 in
    subst (λ it. IsRegular it c h) (sym regular.is)
    (read_regular keys n gap3 fill words regular.fits regular.coded regular.bytes regular.asked regular.wide c h regular.room regular.distinct regular.together.2)

-- a Laid track is regular
pub laid_regular : (track : List ℕ) → IsLaid track → (c h : ℕ) × IsRegular track c h
laid_regular track laid =
    let it = laid.lay in
    let regular = it.5 in
    let c = regular.together.0 in
    let h = regular.together.1 in (
      c,
      h,
      comes_regular laid.formatted laid.writes track c h (lay_aligned laid.formatted it.0 it.1 it.2 it.3 it.4 regular) laid.written (lay_regular laid.formatted it.0 it.1 it.2 it.3 it.4 regular),
    )

-- ---- Torn tracks

-- a Laid track is Torn
pub laid_torn : (track : List ℕ) → IsLaid track → IsTorn track
laid_torn track laid =
    let it = laid.lay in
    let formatted = lay_aligned laid.formatted it.0 it.1 it.2 it.3 it.4 it.5 in
    record {
      formatted = laid.formatted;
      lay = laid.lay;
      writes = whole_writes laid.writes;
      written = whole_torn unstopped laid.formatted laid.writes track (λ q. refl) formatted laid.written;
    }

torn_is_aligned : (track : List ℕ) → IsTorn track → (stops : ℕ → ℕ) × IsAligned stops track
torn_is_aligned track torn =
    let it = torn.lay in
    torn_aligned unstopped torn.formatted torn.writes track (lay_aligned torn.formatted it.0 it.1 it.2 it.3 it.4 it.5) torn.written

pub torn_tidy : (track : List ℕ) (p : ℕ) (deleted : Bool) (content : List ℕ) → IsTorn track → HasFieldFor track p content → IsTidy track p deleted content
torn_tidy track p deleted content torn field =
    let aligned = torn_is_aligned track torn in aligned_tidy aligned.0 track p field.0 deleted content aligned.1 field.1

pub torn_spaced : (track : List ℕ) → IsTorn track → IsSpaced track
torn_spaced track torn = (torn_is_aligned track torn).1.spaced

pub torn_has_addresses : (track : List ℕ) (torn : IsTorn track) (q : ℕ) (key : Chrn) → IsAddressAt torn.formatted q key ↔ IsAddressAt track q key
torn_has_addresses track torn q key =
    let it = torn.lay in
    torn_addresses unstopped torn.formatted torn.writes track (lay_aligned torn.formatted it.0 it.1 it.2 it.3 it.4 it.5) torn.written q key

pub torn_is_regular : (track : List ℕ) → IsTorn track → (c h : ℕ) × IsRegular track c h
torn_is_regular track torn =
    let it = torn.lay in
    let regular = it.5 in
    let c = regular.together.0 in
    let h = regular.together.1 in (
      c,
      h,
      torn_regular unstopped torn.formatted torn.writes track c h (lay_aligned torn.formatted it.0 it.1 it.2 it.3 it.4 regular) torn.written (lay_regular torn.formatted it.0 it.1 it.2 it.3 it.4 regular),
    )
