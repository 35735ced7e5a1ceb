-- What the disk is after a laying, and the keys of a format.
use Rattle.std.proofs.Common.{◌≡◌, ◌↔◌, ℕ, false, ◌+◌, ◌-◌, ◌<◌, ◌≤◌, List, ◌++◌, length, take, drop, max, get_or, All, sym, ap, subst, ◌∙◌, arith}
use Rattle.sector_map.proofs.Common.{length-append, length-take, length-replicate, drop_all, take_all, append-nil, length-map-range_with_len, get_or-map-range_with_len, Chrn, sectors_at, standard_code, Disk, IsDisk, track_of, IsWithTrack, longer_cut, key_of, AreAlike, KeepsTracks, joined_laying}
use Rattle.track_model.specs.declared.symbol.Symbol.{Symbol}
use Rattle.track_model.specs.declared.symbol.Symbol.TheVariants.{Byte}
use Rattle.track_model.specs.Layouts.{lay, track_symbols, gap, laid_words, Fits}
use Rattle.flop_base.specs.Lists.{with_items}
use Rattle.track_model.proofs.Recorded.{length-recorded}
use Rattle.sector_map.specs.Standard.{track_keys}
use Rattle.sector_map.specs.Layings.{Format, format_keys, formatted, Laying, IsLaying, CanFormat}
use Rattle.sector_map.proofs.RegularTracks.{length-track_of}
use Rattle.sector_map.proofs.KeptTracks.{alike_tracks, with_track_keeps, with_later}

-- ---- the keys of a track

pub length-track_keys : (sectors c h : ℕ) → length (track_keys sectors c h) ≡ sectors
unfolding track_keys
length-track_keys sectors c h = length-map-range_with_len (key_of c h) 1 sectors

-- key i has record i + 1
pub track_key_at : (sectors c h i : ℕ) (d : Chrn) → i < sectors → get_or (track_keys sectors c h) i d ≡ key_of c h (1 + i)
unfolding track_keys
track_key_at sectors c h i d within = get_or-map-range_with_len (key_of c h) 1 sectors i (1 + i) d within (omega arith)

-- what holds of the key of each record from 1 on holds of all keys of the track, and the other way round
pub all_track_keys : (sectors c h : ℕ) (P : Chrn → Type 0) → ((r : ℕ) → 1 ≤ r → r ≤ sectors → P (key_of c h r)) → All P (track_keys sectors c h)
all_track_keys sectors c h P each i d below =
    let within : i < sectors = omega (arith, length-track_keys sectors c h) in
    subst P (sym (track_key_at sectors c h i d within)) (each (1 + i) (omega arith) (omega arith))

pub each_track_key : (sectors c h : ℕ) (P : Chrn → Type 0) → All P (track_keys sectors c h) → (r : ℕ) → 1 ≤ r → r ≤ sectors → P (key_of c h r)
each_track_key sectors c h P all r least most =
    let record_is : 1 + (r - 1) ≡ r = omega arith in
    let d = key_of c h r in
    subst (λ k. P (key_of c h k)) record_is
    (subst P (track_key_at sectors c h (r - 1) d (omega arith)) (all (r - 1) d (omega (arith, length-track_keys sectors c h))))

pub length-format_keys : (format : Format) → length (format_keys format) ≡ sectors_at format.rate
length-format_keys format = length-track_keys (sectors_at format.rate) format.c format.h

-- the sectors fit if the rate's number of sectors of 512 bytes fits
pub format_fits : (format : Format) (words : ℕ) → Fits (format_keys format) standard_code format.gap3 words ↔ laid_words (sectors_at format.rate) standard_code format.gap3 ≤ words
format_fits format words =
    let same = length-format_keys format in
    let Within : ℕ → Type 0 = λ s. laid_words s standard_code format.gap3 ≤ words in
    (subst Within same, subst Within (sym same))

-- ---- the formatted track

pub length-lay : (keys : List Chrn) (n gap3 fill words : ℕ) → length (lay keys n gap3 fill words) ≡ words
unfolding lay
length-lay keys n gap3 fill words =
    let symbols : List Symbol = track_symbols keys n gap3 fill in
    let all : length (symbols ++ gap words) ≡ length symbols + length (gap words) = length-append symbols (gap words) in
    let behind : length (gap words) ≡ words = length-replicate words (Byte 0x4E) in
    length-recorded false (take words (symbols ++ gap words)) ∙ omega (arith, length-take words (symbols ++ gap words))

pub length-formatted : (format : Format) (words : ℕ) → length (formatted format words) ≡ words
length-formatted format words = length-lay (format_keys format) standard_code format.gap3 format.fill words

-- ---- a laying

-- the other tracks stay, and so do the disk's shape, rate and protection
pub laying_keeps_tracks : (format : Format) (disk : Disk) (laying : Laying) (after : Disk) → IsLaying format disk laying after → KeepsTracks disk laying.cylinder format.h after
laying_keeps_tracks format disk laying after is = with_track_keeps disk after laying.cylinder format.h _ is.laid

all_laid : (track words : List ℕ) (k : ℕ) → k ≡ length words → k ≡ length track → with_items track 0 (take k words) ≡ words
unfolding with_items
all_laid track words k all whole =
    let taken : take k words ≡ words = take_all k words (omega arith) in
    ap (λ row. row ++ drop (0 + length row) track) taken
    ∙ ap (λ rest. words ++ rest) (drop_all (0 + length words) track (omega arith))
    ∙ append-nil words

-- a laying of all words leaves the formatted track
pub laid_whole : (format : Format) (disk : Disk) (laying : Laying) (after : Disk) → IsDisk disk → IsLaying format disk laying after → laying.words ≡ disk.words_per_track → track_of after laying.cylinder format.h ≡ formatted format disk.words_per_track
laid_whole format disk laying after valid is whole =
    is.laid.has
    ∙ all_laid (track_of disk laying.cylinder format.h) (formatted format disk.words_per_track) laying.words
    (whole ∙ sym (length-formatted format disk.words_per_track)) (whole ∙ sym (length-track_of disk laying.cylinder format.h valid is.track))

-- a disk can be formatted in this way if, and only if, a disk like it can
pub can_format_alike : (format : Format) (disk after : Disk) → AreAlike disk after → CanFormat format disk ↔ CanFormat format after
can_format_alike format disk after alike = (
  λ can. record {
    track = (alike_tracks disk after format.c format.h alike).0 can.track;
    rate = alike.rate ∙ can.rate;
    fits = subst (Fits (format_keys format) standard_code format.gap3) (sym alike.words_per_track) can.fits;
  },
  λ can. record {
    track = (alike_tracks disk after format.c format.h alike).1 can.track;
    rate = sym alike.rate ∙ can.rate;
    fits = subst (Fits (format_keys format) standard_code format.gap3) alike.words_per_track can.fits;
  },
)

laid_twice : (track words : List ℕ) (j k : ℕ) → length words ≡ length track → j ≤ length words → k ≤ length words → with_items (with_items track 0 (take j words)) 0 (take k words) ≡ with_items track 0 (take (max j k) words)
laid_twice track words j k long few more = longer_cut track 0 words j k few more (omega arith)

-- a laying and a later one of the same format on the same cylinder are one laying of the first disk: the longer stands
pub layings_join : (format : Format) (disk : Disk) (one : Laying) (middle : Disk) (two : Laying) (after : Disk) → IsDisk disk → IsLaying format disk one middle → IsLaying format middle two after → two.cylinder ≡ one.cylinder → IsLaying format disk (joined_laying one two) after
layings_join format disk one middle two after valid first second same =
    let h = format.h in
    let w = disk.words_per_track in
    let track = track_of disk one.cylinder h in
    let words = formatted format w in
    let row = with_items track 0 (take one.words words) in
    let Laid : ℕ → List ℕ → List ℕ → Type 0 = λ c r all. IsWithTrack middle c h (with_items r 0 (take two.words all)) after in
    let there : Laid one.cylinder (track_of middle one.cylinder h) (formatted format middle.words_per_track) = subst (λ c. Laid c (track_of middle c h) (formatted format middle.words_per_track)) same second.laid in
    let same_layout : formatted format middle.words_per_track ≡ words = ap (λ n. formatted format n) first.laid.words_per_track in
    let laid : Laid one.cylinder row words = subst (λ r. Laid one.cylinder r words) first.laid.has (subst (Laid one.cylinder (track_of middle one.cylinder h)) same_layout there) in
    let long : length words ≡ w = length-formatted format w in
    let track_long : length track ≡ w = length-track_of disk one.cylinder h valid first.track in
    let few : one.words ≤ w = first.most in
    let more : two.words ≤ w = subst (λ n. two.words ≤ n) first.laid.words_per_track second.most in
    record {
      track = first.track;
      most = omega arith;
      laid = subst (λ r. IsWithTrack disk one.cylinder h r after) (laid_twice track words one.words two.words (omega arith) (omega arith) (omega arith))
          (with_later disk middle after one.cylinder h row _ first.laid laid);
    }
