-- Lines of a survey, one track after the other.
use Rattle.std.proofs.Common.{◌≡◌, ℕ, zero, suc, ◌+◌, List, [], ◌∷◌, ◌++◌, map, sym, ap, subst, ◌∙◌, append_assoc, refl, arith}
use Rattle.remaster.proofs.Common.{range_with_len, flat_map, append-nil, flat_map_more, map-range_with_len_more, Disk, track_of, LookedField, AreLooked, TrackNumber, track_number, line_on, AreLines}
use Rattle.remaster.specs.declared.lines.SurveyLine.{SurveyLine}
use Rattle.remaster.specs.Survey.{cylinder_tracks, tracks_of}

lines-append : (disk : Disk) (tracks more : List TrackNumber) (lines others : List SurveyLine) → AreLines disk tracks lines → AreLines disk more others → AreLines disk (tracks ++ more) (lines ++ others)
lines-append disk [] more lines others a b = subst (AreLines disk more) (sym (ap (λ ls. ls ++ others) a)) b
lines-append disk (track ∷ tracks) more lines others (looked, rest, exact, is, tail) b = (
  looked,
  rest ++ others,
  exact,
  ap (λ ls. ls ++ others) is ∙ append_assoc (map (line_on track) looked) rest others,
  lines-append disk tracks more rest others tail b,
)

-- lines were added to a list: the lines of these tracks
pub record HasAdded (disk : Disk) (tracks : List TrackNumber) (start items : List SurveyLine) : Type 0 where
  pub more : List SurveyLine
  pub items_are : items ≡ start ++ more
  pub lines : AreLines disk tracks more

pub added_none : (disk : Disk) (tracks : List TrackNumber) (start : List SurveyLine) → tracks ≡ [] → HasAdded disk tracks start start
added_none disk tracks start e = record {
  more = [];
  items_are = sym (append-nil start);
  lines = subst (λ ts. AreLines disk ts []) (sym e) refl;
}

pub added_more : (disk : Disk) (tracks others all : List TrackNumber) (start items after more : List SurveyLine) → HasAdded disk tracks start items → AreLines disk others more → after ≡ items ++ more → all ≡ tracks ++ others → HasAdded disk all start after
added_more disk tracks others all start items after more so_far lines e f = record {
  more = so_far.more ++ more;
  items_are = e ∙ ap (λ ls. ls ++ more) so_far.items_are ∙ append_assoc start so_far.more more;
  lines = subst (λ ts. AreLines disk ts (so_far.more ++ more)) (sym f) (lines-append disk tracks others so_far.more more so_far.lines lines);
}

-- the lines of one track
pub one_track : (disk : Disk) (track : TrackNumber) (looked : List LookedField) → AreLooked (track_of disk track.cylinder track.head) looked → AreLines disk (track ∷ []) (map (line_on track) looked)
one_track disk track looked exact = (looked, [], exact, sym (append-nil (map (line_on track) looked)), refl)

-- ---- the tracks of one more number

pub cylinder_tracks-more : (h c : ℕ) → cylinder_tracks (h + 1) c ≡ cylinder_tracks h c ++ track_number c h ∷ []
unfolding cylinder_tracks
cylinder_tracks-more h c = map-range_with_len_more (track_number c) 0 h h (omega arith)

pub cylinder_tracks-none : (c : ℕ) → cylinder_tracks 0 c ≡ []
unfolding cylinder_tracks
cylinder_tracks-none c = refl

range_suc : (a n : ℕ) → range_with_len a (suc n) ≡ range_with_len a n ++ (a + n) ∷ []
range_suc a zero = let e : a ≡ a + 0 = omega arith in ap (λ k. k ∷ []) e
range_suc a (suc n) =
    let e : a + 1 + n ≡ a + suc n = omega arith in
    ap (λ ks. a ∷ ks) (range_suc (a + 1) n) ∙ ap (λ k. a ∷ (range_with_len (a + 1) n ++ k ∷ [])) e

-- the tracks of the first cylinders
unfoldable pub tracks_below : ℕ → ℕ → List TrackNumber
tracks_below heads c = flat_map (cylinder_tracks heads) (range_with_len 0 c)

pub tracks_below-more : (heads c : ℕ) → tracks_below heads (c + 1) ≡ tracks_below heads c ++ cylinder_tracks heads c
unfolding tracks_below
tracks_below-more heads c =
    let count : c + 1 ≡ suc c = omega arith in
    let last : 0 + c ≡ c = omega arith in
    ap (λ m. flat_map (cylinder_tracks heads) (range_with_len 0 m)) count
    ∙ ap (flat_map (cylinder_tracks heads)) (range_suc 0 c)
    ∙ sym (flat_map_more (cylinder_tracks heads) [] (range_with_len 0 c) (0 + c))
    ∙ ap (λ m. flat_map (cylinder_tracks heads) (range_with_len 0 c) ++ cylinder_tracks heads m) last

pub tracks_below-none : (heads : ℕ) → tracks_below heads 0 ≡ []
unfolding tracks_below
tracks_below-none heads = refl

-- the lines of all tracks were added
pub added_all : (disk : Disk) (c : ℕ) (items : List SurveyLine) → c ≡ disk.cylinders → HasAdded disk (tracks_below disk.heads c) [] items → AreLines disk (tracks_of disk) items
unfolding tracks_below tracks_of
added_all disk c items e added =
    let With : List SurveyLine → Type 0 = λ ls. AreLines disk (tracks_of disk) ls in
    let Of : ℕ → Type 0 = λ n. AreLines disk (flat_map (cylinder_tracks disk.heads) (range_with_len 0 n)) added.more in
    subst With (sym added.items_are) (subst Of e added.lines)
