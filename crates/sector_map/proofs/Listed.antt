-- Lists of failing keys, joined one after the other.
use Rattle.std.proofs.Common.{◌≡◌, ℕ, zero, suc, ◌+◌, ◌-◌, ◌≤◌, List, [], ◌∷◌, ◌++◌, map, take, sym, ap, subst, ◌∙◌, append_assoc, refl, arith}
use Rattle.sector_map.proofs.Common.{range_with_len, flat_map, append-nil, flat_map_more, map-range_with_len_more, take-map-range_with_len, Chrn, Disk, Look, LookOn, sectors_at, key_of, unless_found, AreFailing}
use Rattle.sector_map.specs.Standard.{track_keys, cylinder_keys, standard_keys}

pub failing-append : (disk : Disk) (keys more : List Chrn) (failed others : List (Chrn × Look)) → AreFailing disk keys failed → AreFailing disk more others → AreFailing disk (keys ++ more) (failed ++ others)
failing-append disk [] more failed others a b = subst (AreFailing disk more) (sym (ap (λ fs. fs ++ others) a)) b
failing-append disk (key ∷ keys) more failed others (look, rest, found, is, tail) b = (
  look,
  rest ++ others,
  found,
  ap (λ fs. fs ++ others) is ∙ append_assoc (unless_found key look) rest others,
  failing-append disk keys more rest others tail b,
)

-- pairs were added to a list: one for each of these keys that isn't found
pub record HasAdded (disk : Disk) (keys : List Chrn) (start items : List (Chrn × Look)) : Type 0 where
  pub more : List (Chrn × Look)
  pub items_are : items ≡ start ++ more
  pub failing : AreFailing disk keys more

pub added_none : (disk : Disk) (keys : List Chrn) (start : List (Chrn × Look)) → keys ≡ [] → HasAdded disk keys start start
added_none disk keys start e = record {
  more = [];
  items_are = sym (append-nil start);
  failing = subst (λ ks. AreFailing disk ks []) (sym e) refl;
}

pub added_more : (disk : Disk) (keys others all : List Chrn) (start items after more : List (Chrn × Look)) → HasAdded disk keys start items → AreFailing disk others more → after ≡ items ++ more → all ≡ keys ++ others → HasAdded disk all start after
added_more disk keys others all start items after more so_far failing e f = record {
  more = so_far.more ++ more;
  items_are = e ∙ ap (λ fs. fs ++ more) so_far.items_are ∙ append_assoc start so_far.more more;
  failing = subst (λ ks. AreFailing disk ks (so_far.more ++ more)) (sym f) (failing-append disk keys others so_far.more more so_far.failing failing);
}

pub one_failing : (disk : Disk) (key : Chrn) (look : Look) → LookOn disk key look → AreFailing disk (key ∷ []) (unless_found key look)
one_failing disk key look found = (look, [], found, sym (append-nil (unless_found key look)), refl)

-- ---- the keys of one more number

range_suc : (a n : ℕ) → range_with_len a (suc n) ≡ range_with_len a n ++ (a + n) ∷ []
range_suc a zero = let e : a ≡ a + 0 = omega arith in ap (λ k. k ∷ []) e
range_suc a (suc n) =
    let e : a + 1 + n ≡ a + suc n = omega arith in
    ap (λ ks. a ∷ ks) (range_suc (a + 1) n) ∙ ap (λ k. a ∷ (range_with_len (a + 1) n ++ k ∷ [])) e

pub track_keys-more : (r c h : ℕ) → 1 ≤ r → track_keys (r + 1 - 1) c h ≡ track_keys (r - 1) c h ++ key_of c h r ∷ []
unfolding track_keys
track_keys-more r c h some =
    let count : r + 1 - 1 ≡ r - 1 + 1 = omega arith in
    ap (λ n. map (key_of c h) (range_with_len 1 n)) count ∙ map-range_with_len_more (key_of c h) 1 (r - 1) r (omega arith)

pub track_keys-none : (c h : ℕ) → track_keys (1 - 1) c h ≡ []
unfolding track_keys
track_keys-none c h = refl

flat_more : (keys : ℕ → List Chrn) (n : ℕ) → flat_map keys (range_with_len 0 (n + 1)) ≡ flat_map keys (range_with_len 0 n) ++ keys n
flat_more keys n =
    let count : n + 1 ≡ suc n = omega arith in
    let last : 0 + n ≡ n = omega arith in
    ap (λ m. flat_map keys (range_with_len 0 m)) count
    ∙ ap (flat_map keys) (range_suc 0 n)
    ∙ sym (flat_map_more keys [] (range_with_len 0 n) (0 + n))
    ∙ ap (λ m. flat_map keys (range_with_len 0 n) ++ keys m) last

pub cylinder_keys-more : (sectors h c : ℕ) → cylinder_keys sectors (h + 1) c ≡ cylinder_keys sectors h c ++ track_keys sectors c h
unfolding cylinder_keys
cylinder_keys-more sectors h c = flat_more (track_keys sectors c) h

pub cylinder_keys-none : (sectors c : ℕ) → cylinder_keys sectors 0 c ≡ []
unfolding cylinder_keys
cylinder_keys-none sectors c = refl

-- the keys of the first cylinders
unfoldable pub keys_below : ℕ → ℕ → ℕ → List Chrn
keys_below sectors heads c = flat_map (cylinder_keys sectors heads) (range_with_len 0 c)

pub keys_below-more : (sectors heads c : ℕ) → keys_below sectors heads (c + 1) ≡ keys_below sectors heads c ++ cylinder_keys sectors heads c
unfolding keys_below
keys_below-more sectors heads c = flat_more (cylinder_keys sectors heads) c

pub keys_below-none : (sectors heads : ℕ) → keys_below sectors heads 0 ≡ []
unfolding keys_below
keys_below-none sectors heads = refl

pub keys_below-all : (disk : Disk) (sectors c : ℕ) → sectors ≡ sectors_at disk.rate → c ≡ disk.cylinders → keys_below sectors disk.heads c ≡ standard_keys disk
unfolding keys_below standard_keys
keys_below-all disk sectors c e f =
    ap (λ n. flat_map (cylinder_keys n disk.heads) (range_with_len 0 c)) e ∙ ap (λ n. flat_map (cylinder_keys (sectors_at disk.rate) disk.heads) (range_with_len 0 n)) f

-- all were added
pub added_all : (disk : Disk) (keys all : List Chrn) (items : List (Chrn × Look)) → keys ≡ all → HasAdded disk keys [] items → AreFailing disk all items
added_all disk keys all items e added =
    let With : List (Chrn × Look) → Type 0 = λ fs. AreFailing disk all fs in
    let Of : List Chrn → Type 0 = λ ks. AreFailing disk ks added.more in
    subst With (sym added.items_are) (subst Of e added.failing)

-- the first keys of a longer track are the keys of a shorter one
pub take-track_keys : (sectors more c h : ℕ) → sectors ≤ more → take sectors (track_keys more c h) ≡ track_keys sectors c h
unfolding track_keys
take-track_keys sectors more c h few = take-map-range_with_len (key_of c h) 1 more sectors few

-- the keys of one more record
pub track_keys-next : (i c h : ℕ) → track_keys (i + 1) c h ≡ track_keys i c h ++ key_of c h (i + 1) ∷ []
unfolding track_keys
track_keys-next i c h = map-range_with_len_more (key_of c h) 1 i (i + 1) (omega arith)
