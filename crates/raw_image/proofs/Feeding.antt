-- What a reader that was fed some bytes is after more bytes, and what it answers where the file ends.
use Rattle.std.proofs.Common.{◌≡◌, ℕ, ◌+◌, ◌<◌, ◌≤◌, true, false, ltb, List, [], ◌∷◌, ◌++◌, length, take, drop, refl, sym, ap, subst, ◌∙◌, append_assoc, arith, Result, Ok, Err, length-append, length-drop}
use Rattle.raw_image.proofs.Common.{flat_map, lt-ltb, le-ltb, append-nil, take_at, take_all, take-append-le, drop-append-le, take-append-drop, drop_of_length-le, ImageError, TooShort, Trailing, NoMemory, Disk, Header, header_of, whole_length, OrNoMemory, Reads, Progress, Begun, Going, Failed, IsWrong, IsFed, FeedsAll, Finishes}
use Rattle.raw_image.specs.Image.{image_of}

pub or_no_memory : (e : ImageError) (P : Type 0) → P → OrNoMemory e P
or_no_memory NoMemory P p = tt
or_no_memory _ P p = p

pub or_no_memory_then : (e : ImageError) (P Q : Type 0) → (P → Q) → OrNoMemory e P → OrNoMemory e Q
or_no_memory_then NoMemory P Q f p = tt
or_no_memory_then _ P Q f p = f p

-- if something is wrong with a header, it is wrong with every file that begins with this header
pub wrong_header : (header rest : List ℕ) (e : ImageError) → length header ≡ 14 → header_of header ≡ Err e → IsWrong (header ++ rest) e
unfolding image_of
wrong_header header rest e len wrong more =
    let parts : (header ++ rest) ++ more ≡ header ++ (rest ++ more) = append_assoc header rest more in
    let long : ltb (length (header ++ (rest ++ more))) 14 ≡ false = le-ltb _ _ (omega (arith, len, length-append header (rest ++ more))) in
    let front : take 14 (header ++ (rest ++ more)) ≡ header = take_at header (rest ++ more) 14 len in
    ap image_of parts ∙ rw (long, front, wrong) refl

-- a whole header
pub begins : (header : List ℕ) (h : Header) → length header ≡ 14 → header_of header ≡ Ok h → IsFed header (Going h [])
begins header h len tells =
    let all : take 14 header ≡ header = take_all 14 header (omega (arith, len)) in
    let nothing : drop 14 header ≡ [] = drop_of_length-le header {i = 14} (omega (arith, len)) in
    (omega (arith, len), ap header_of all ∙ tells, nothing, omega (arith, len))

length_going : (bytes body : List ℕ) → 14 ≤ length bytes → drop 14 bytes ≡ body → length bytes ≡ 14 + length body
length_going bytes body long rest = omega (arith, length-drop 14 bytes, ap length rest)

-- more bytes, but not more than the header tells of
pub goes_on : (bytes body piece : List ℕ) (h : Header) → IsFed bytes (Going h body) → 14 + length (body ++ piece) ≤ whole_length h → IsFed (bytes ++ piece) (Going h (body ++ piece))
goes_on bytes body piece h (long, tells, rest, within) more =
    let len = length_going bytes body long rest in
    let front : take 14 (bytes ++ piece) ≡ take 14 bytes = take-append-le 14 bytes piece long in
    let back : drop 14 (bytes ++ piece) ≡ body ++ piece = drop-append-le 14 bytes piece long ∙ ap (λ (bs : List ℕ). bs ++ piece) rest in
    (omega (arith, length-append bytes piece), ap header_of front ∙ tells, back, omega (arith, len, length-append bytes piece, length-append body piece))

pub going_on : (bytes body piece now : List ℕ) (h g : Header) → IsFed bytes (Going h body) → g ≡ h → now ≡ body ++ piece → 14 + length now ≤ whole_length g → IsFed (bytes ++ piece) (Going g now)
going_on bytes body piece now h g fed same more within =
    let fits : 14 + length (body ++ piece) ≤ whole_length h = omega (arith, within, ap length more, ap whole_length same) in
    rw (same, more) (goes_on bytes body piece h fed fits)

-- too many bytes: this stays wrong however the file goes on
pub too_long : (bytes body piece : List ℕ) (h : Header) → IsFed bytes (Going h body) → whole_length h < 14 + length (body ++ piece) → IsWrong (bytes ++ piece) (Trailing (whole_length h))
unfolding image_of
too_long bytes body piece h (enough, tells, rest, within) many more =
    let len = length_going bytes body enough rest in
    let sum = length-append body piece in
    let parts : (bytes ++ piece) ++ more ≡ bytes ++ (piece ++ more) = append_assoc bytes piece more in
    let all = length-append bytes (piece ++ more) in
    let some = length-append piece more in
    let long : ltb (length (bytes ++ (piece ++ more))) 14 ≡ false = le-ltb _ _ (omega (arith, enough, all)) in
    let front : take 14 (bytes ++ (piece ++ more)) ≡ take 14 bytes = take-append-le 14 bytes (piece ++ more) enough in
    let whole : ltb (length (bytes ++ (piece ++ more))) (whole_length h) ≡ false = le-ltb _ _ (omega (arith, len, sum, all, some, many)) in
    let beyond : ltb (whole_length h) (length (bytes ++ (piece ++ more))) ≡ true = lt-ltb _ _ (omega (arith, len, sum, all, some, many)) in
    ap image_of parts ∙ rw (long, front, tells, whole, beyond) refl

pub too_long_or_no_memory : (bytes body piece : List ℕ) (h : Header) (e : ImageError) → OrNoMemory e ((e ≡ Trailing (whole_length h)) × (whole_length h < 14 + length (body ++ piece)))
    → IsFed bytes (Going h body) → IsFed (bytes ++ piece) (Failed e)
too_long_or_no_memory bytes body piece h e long fed =
    or_no_memory_then e ((e ≡ Trailing (whole_length h)) × (whole_length h < 14 + length (body ++ piece))) (IsWrong (bytes ++ piece) e) (λ p. subst (λ (x : ImageError). IsWrong (bytes ++ piece) x) (sym p.0) (too_long bytes body piece h fed p.1)) long

-- ---- all pieces

pub pieces_after : (pieces : List (List ℕ)) (bytes : List ℕ) (old new : Progress) → IsFed bytes old → FeedsAll pieces old new → IsFed (bytes ++ flat_map (λ piece. piece) pieces) new
pieces_after [] bytes old new fed same = subst (λ (p : Progress). IsFed (bytes ++ []) p) same (rw (append-nil bytes) fed)
pieces_after (piece ∷ pieces) bytes old new fed (next, feeds, more) =
    subst (λ (bs : List ℕ). IsFed bs new) (append_assoc bytes piece (flat_map (λ piece. piece) pieces)) (pieces_after pieces (bytes ++ piece) next new (feeds bytes fed) more)

-- ---- where the file ends

pub ends_begun : (bytes front : List ℕ) → IsFed bytes (Begun front) → image_of bytes ≡ Err (TooShort 14 (length front))
unfolding image_of
ends_begun bytes front (same, short) =
    let few : ltb (length bytes) 14 ≡ true = lt-ltb _ _ short in
    rw few (ap (λ (bs : List ℕ). Err (TooShort 14 (length bs))) same)

pub ends_going : (bytes body : List ℕ) (h : Header) (r : Result Disk ImageError) → IsFed bytes (Going h body) → Finishes h body r → Reads (image_of bytes) r
unfolding image_of
ends_going bytes body h (Ok d) (enough, tells, rest, within) (whole, value) =
    let len = length_going bytes body enough rest in
    let long : ltb (length bytes) 14 ≡ false = le-ltb _ _ enough in
    let not_short : ltb (length bytes) (whole_length h) ≡ false = le-ltb _ _ (omega (arith, len, whole)) in
    let not_long : ltb (whole_length h) (length bytes) ≡ false = le-ltb _ _ within in
    rw (long, tells, not_short, not_long, rest, value) refl
ends_going bytes body h (Err e) (enough, tells, rest, within) (short, value) =
    let len = length_going bytes body enough rest in
    let long : ltb (length bytes) 14 ≡ false = le-ltb _ _ enough in
    let too_short : ltb (length bytes) (whole_length h) ≡ true = lt-ltb _ _ (omega (arith, len, short)) in
    or_no_memory e (image_of bytes ≡ Err e) (rw (long, tells, too_short, value, len) refl)

pub ends_failed : (bytes : List ℕ) (e : ImageError) → IsFed bytes (Failed e) → OrNoMemory e (image_of bytes ≡ Err e)
ends_failed bytes e =
    or_no_memory_then e (IsWrong bytes e) (image_of bytes ≡ Err e) (λ wrong. ap image_of (sym (append-nil bytes)) ∙ wrong [])

-- ---- a header that becomes whole with this piece

-- the front and the whole piece are the header and then the rest of the piece
front_piece : (bytes front piece header : List ℕ) (missing : ℕ) → IsFed bytes (Begun front) → header ≡ front ++ take missing piece → bytes ++ piece ≡ header ++ drop missing piece
front_piece bytes front piece header missing fed filled =
    ap (λ (bs : List ℕ). bs ++ piece) fed.0 ∙ ap (λ (bs : List ℕ). front ++ bs) (sym (take-append-drop missing piece)) ∙ sym (append_assoc front (take missing piece) (drop missing piece))
    ∙ ap (λ (bs : List ℕ). bs ++ drop missing piece) (sym filled)

pub header_wrong : (bytes front piece header : List ℕ) (missing : ℕ) (e : ImageError) → IsFed bytes (Begun front) → header ≡ front ++ take missing piece → length header ≡ 14
    → header_of header ≡ Err e → IsFed (bytes ++ piece) (Failed e)
header_wrong bytes front piece header missing e fed filled len wrong =
    subst (λ (bs : List ℕ). IsFed bs (Failed e)) (sym (front_piece bytes front piece header missing fed filled)) (or_no_memory e (IsWrong (header ++ drop missing piece) e) (wrong_header header (drop missing piece) e len wrong))

pub header_right : (bytes front piece header body : List ℕ) (missing : ℕ) (h : Header) → IsFed bytes (Begun front) → header ≡ front ++ take missing piece → length header ≡ 14
    → header_of header ≡ Ok h → body ≡ drop missing piece → 14 + length body ≤ whole_length h → IsFed (bytes ++ piece) (Going h body)
header_right bytes front piece header body missing h fed filled len tells rest within =
    subst (λ (bs : List ℕ). IsFed bs (Going h body)) (sym (front_piece bytes front piece header missing fed filled ∙ ap (λ (bs : List ℕ). header ++ bs) (sym rest)))
    (goes_on header [] body h (begins header h len tells) within)

pub header_too_long : (bytes front piece header body : List ℕ) (missing : ℕ) (h : Header) (e : ImageError) → IsFed bytes (Begun front) → header ≡ front ++ take missing piece → length header ≡ 14
    → header_of header ≡ Ok h → body ≡ drop missing piece → OrNoMemory e ((e ≡ Trailing (whole_length h)) × (whole_length h < 14 + length body)) → IsFed (bytes ++ piece) (Failed e)
header_too_long bytes front piece header body missing h e fed filled len tells rest long =
    subst (λ (bs : List ℕ). IsFed bs (Failed e)) (sym (front_piece bytes front piece header missing fed filled ∙ ap (λ (bs : List ℕ). header ++ bs) (sym rest)))
    (too_long_or_no_memory header [] body h e long (begins header h len tells))

-- ---- an error, and what is wrong with the file

pub is_wrong : (bytes more : List ℕ) (e : ImageError) → IsFed bytes (Failed e) → Reads (image_of (bytes ++ more)) (Err e)
is_wrong bytes more e = or_no_memory_then e (IsWrong bytes e) (image_of (bytes ++ more) ≡ Err e) (λ wrong. wrong more)
