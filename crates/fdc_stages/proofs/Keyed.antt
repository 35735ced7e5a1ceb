-- Sector IDs (keys), and their bytes one after the other.
use Rattle.std.proofs.Common.{◌≡◌, ℕ, zero, suc, ◌+◌, ◌*◌, ◌≤◌, Bool, true, false, List, [], ◌∷◌, ◌++◌, length, drop, slice_index, refl, sym, ap, ◌∙◌, append_assoc, arith, length-append}
use Rattle.fdc_stages.proofs.Common.{false≢true, drop-append-le, drop-drop, flat_map, Chrn, key_bytes, handed_with, Numbers, no_key, last_from, last_key, keys_from, AreKeys, IsLastKey}

-- ---- the sector IDs of bytes

pub length-keys_from : (count : ℕ) (bytes : List ℕ) → length (keys_from count bytes) ≡ count
length-keys_from zero bytes = refl
length-keys_from (suc count) bytes = ap suc (length-keys_from count (drop 4 bytes))

pub keys_known : (count : ℕ) (bytes : List ℕ) → length bytes ≤ 4 * count → (zeros : List ℕ) × (flat_map key_bytes (keys_from count bytes) ≡ bytes ++ zeros)
keys_known zero [] few = ([], refl)
keys_known zero (a ∷ bytes) few = absurd (omega arith)
keys_known (suc count) [] few =
    let others = keys_known count [] (omega arith) in
    (0 ∷ 0 ∷ 0 ∷ 0 ∷ others.0, ap (λ xs. 0 ∷ 0 ∷ 0 ∷ 0 ∷ xs) others.1)
keys_known (suc count) (a ∷ []) few =
    let others = keys_known count [] (omega arith) in
    (0 ∷ 0 ∷ 0 ∷ others.0, ap (λ xs. a ∷ 0 ∷ 0 ∷ 0 ∷ xs) others.1)
keys_known (suc count) (a ∷ b ∷ []) few =
    let others = keys_known count [] (omega arith) in
    (0 ∷ 0 ∷ others.0, ap (λ xs. a ∷ b ∷ 0 ∷ 0 ∷ xs) others.1)
keys_known (suc count) (a ∷ b ∷ c ∷ []) few =
    let others = keys_known count [] (omega arith) in
    (0 ∷ others.0, ap (λ xs. a ∷ b ∷ c ∷ 0 ∷ xs) others.1)
keys_known (suc count) (a ∷ b ∷ c ∷ d ∷ bytes) few =
    let others = keys_known count bytes (omega arith) in
    (others.0, ap (λ xs. a ∷ b ∷ c ∷ d ∷ xs) others.1)

-- there are sector IDs whose bytes begin with those that were handed in
pub some_keys : (numbers : Numbers) (handed : List ℕ) → length handed ≤ 4 * numbers.sectors → (zeros : List ℕ) × AreKeys numbers handed (keys_from numbers.sectors handed) zeros
some_keys numbers handed few =
    let known = keys_known numbers.sectors handed few in
    (known.0, record { many = length-keys_from numbers.sectors handed; bytes = known.1 })

-- ---- the last sector ID

pub key_shifts : (takes : Bool) (handed : List ℕ) (before after : Chrn) (byte : ℕ) → takes ≡ true → after ≡ record { c = before.h; h = before.r; r = before.n; n = byte } → IsLastKey handed before → IsLastKey (handed_with takes byte handed) after
key_shifts false handed before after byte is shifted was = absurd (false≢true is)
key_shifts true handed before after byte is shifted was =
    let all = key_bytes no_key ++ handed in
    let long : length all ≡ length handed + 4 = omega (arith, length-append (key_bytes no_key) handed) in
    let more : length (handed ++ byte ∷ []) ≡ length handed + 1 = length-append handed (byte ∷ []) in
    ap key_bytes shifted
    ∙ ap (λ xs. drop 1 xs ++ byte ∷ []) was
    ∙ ap (λ xs. xs ++ byte ∷ []) (drop-drop 1 (length handed) all)
    ∙ sym (drop-append-le (length handed + 1) all (byte ∷ []) (omega arith))
    ∙ ap (drop (length handed + 1)) (append_assoc (key_bytes no_key) handed (byte ∷ []))
    ∙ ap (λ k. drop k (key_bytes no_key ++ (handed ++ byte ∷ []))) (sym more)

last_bytes : (before : Chrn) (keys : List Chrn) → drop (length (flat_map key_bytes keys)) (key_bytes before ++ flat_map key_bytes keys) ≡ key_bytes (last_from before keys)
last_bytes before [] = refl
last_bytes before (key ∷ keys) = last_bytes key keys

abbrev key_of : ℕ → ℕ → ℕ → ℕ → Chrn
key_of c h r n = record { c = c; h = h; r = r; n = n }

same_key : (one other : Chrn) → key_bytes one ≡ key_bytes other → one ≡ other
same_key one other is =
    ap (λ c. key_of c one.h one.r one.n) (ap (λ xs. slice_index xs 0) is)
    ∙ ap (λ h. key_of other.c h one.r one.n) (ap (λ xs. slice_index xs 1) is)
    ∙ ap (λ r. key_of other.c other.h r one.n) (ap (λ xs. slice_index xs 2) is)
    ∙ ap (λ n. key_of other.c other.h other.r n) (ap (λ xs. slice_index xs 3) is)

pub last_of : (handed : List ℕ) (key : Chrn) (keys : List Chrn) → flat_map key_bytes keys ≡ handed → IsLastKey handed key → key ≡ last_key keys
last_of handed key keys are was =
    same_key key (last_key keys) (was ∙ ap (λ bytes. drop (length bytes) (key_bytes no_key ++ bytes)) (sym are) ∙ last_bytes no_key keys)
