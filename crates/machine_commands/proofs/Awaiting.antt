-- What a data command does at the ports.
use Rattle.std.proofs.Common.{◌≡◌, inl, inr, ℕ, suc, ◌+◌, Bool, true, false, List, subst, arith, ◌≢◌, ◌⊎◌, zero, ◌*◌, ◌<◌, ◌≤◌, [], ◌∷◌, length, take, drop, map, slice_index, nat_lt, Option, Some, None, Result, Ok, Err, if◌then◌else◌, refl, sym, ◌∙◌, ap, ◌++◌, get_or}
use Rattle.machine_commands.proofs.Common.{Board, Outputs, SetsChannel, Watch, Watches, AwaitsResults, Sends, user_bytes, sectors_at, standard_code, counted, controller_of, memory_of, byte_set, Format, key_bytes, keys_at, in_bay, InRange, Code, Disk, Laying, FormatsTrack, HasTrackUnder, IsFormatMiss, LaysMedium, IsIdle, rig_of, SendsFormatBytes, told_of, Motors, Done, flat_map, range_with_len, nat_tests, get_or_past, get_or-set_other, get_or-set_same, length-set, length-map-range_with_len, IsKeyAt, OnlyMemory, PutsByte, PutsKey, PutsKeys, option_map_or, CostsFor, Rig, page_part, user_part, drop-cons, stirred, last_count, Settles, latch_taken, take_more, runs_taken, Runs}
use Rattle.std.specs.Prelude.{slice_set, MatchOption, IfErr}
use Rattle.std.proofs.lemmas.List.Concat.{flat_map-cons}
use Rattle.sector_map.specs.Standard.{key_of, track_keys}
use Rattle.machine_commands.proofs.Landing.{user_same}
use Rattle.machine_commands.proofs.PastDriver.{still_idle, counted_if}
use Rattle.machine_commands.proofs.WriteDone.{HasKeys, IsFormatted, format_done}

pub output_as : (port a b : ℕ) (old new : Board) → a ≡ b → Outputs port a old new → Outputs port b old new
output_as port a b old new same access = subst (λ value. Outputs port value old new) same access

pub channel_as : (mode address a b : ℕ) (old new : Board) → a ≡ b → SetsChannel mode address a old new → SetsChannel mode address b old new
channel_as mode address a b old new same sets = subst (λ last. SetsChannel mode address last old new) same sets

pub sends_as : (bytes spelled : List ℕ) (old new : Board) → bytes ≡ spelled → Sends bytes old new → Sends spelled old new
sends_as bytes spelled old new same sends = subst (λ (bytes : List ℕ). Sends bytes old new) same sends

-- ---- watches

pub watches_next : (n : ℕ) (ready : Bool) (old between new : Board) → Watches n old between → ready ≡ false → Watch between ready new → Watches (n + 1) old new
watches_next n ready old between new watches not_yet watch =
    let more : suc n ≡ n + 1 = omega arith in
    subst (λ k. Watches k old new) more (between, watches, subst (λ b. Watch between b new) not_yet watch)

pub awaited_now : (n : ℕ) (ready : Bool) (old between new : Board) → Watches n old between → ready ≡ true → Watch between ready new → AwaitsResults old new
awaited_now n ready old between new watches is watch = inl (n, between, watches, subst (λ b. Watch between b new) is watch)

pub awaited_never : (n : ℕ) (old new : Board) → n ≡ 65537 → Watches n old new → AwaitsResults old new
awaited_never n old new all watches = inr (subst (λ k. Watches k old new) all watches)

-- ---- the keys of a format, put into the driver's page

-- ---- one byte

not_user : (address : ℕ) → keys_at ≤ address → nat_lt address user_bytes ≡ false
not_user address high = grind (arith, nat_tests)

pub puts_byte : (address value : ℕ) (old new : Board) → keys_at ≤ address → new ≡ record old { bus = byte_set address value old.bus } → PutsByte address value old new
puts_byte address value old new high is = record {
  only = record {
    controller = ap controller_of is;
    channel = ap (λ b. b.bus.chips.channel) is;
    holding = ap (λ b. b.bus.chips.holding) is;
    latch = ap (λ b. b.bus.latch) is;
    steps = ap (λ b. b.bus.steps) is;
    gaps = ap (λ b. b.bus.gaps) is;
    direct = ap (λ b. b.bus.direct) is ∙ ap (λ b. if b then counted old.bus.direct else old.bus.direct) (not_user address high);
    taken = ap (λ b. b.bus.taken) is;
    first = ap (λ b. b.first) is;
    second = ap (λ b. b.second) is;
  };
  memory = ap memory_of is;
}

only_then : (a b c : Board) → OnlyMemory a b → OnlyMemory b c → OnlyMemory a c
only_then a b c one two = record {
  controller = two.controller ∙ one.controller;
  channel = two.channel ∙ one.channel;
  holding = two.holding ∙ one.holding;
  latch = two.latch ∙ one.latch;
  steps = two.steps ∙ one.steps;
  gaps = two.gaps ∙ one.gaps;
  direct = two.direct ∙ one.direct;
  taken = two.taken ∙ one.taken;
  first = two.first ∙ one.first;
  second = two.second ∙ one.second;
}

-- ---- memory with a byte

set_here : (memory : List ℕ) (a v : ℕ) → a < length memory → slice_index (slice_set memory a v) a ≡ v
set_here memory a v inside = get_or-set_same memory a v 0 inside

set_there : (memory : List ℕ) (a v k : ℕ) → k ≢ a → slice_index (slice_set memory a v) k ≡ slice_index memory k
set_there memory a v k other = get_or-set_other memory a k v 0 other

-- ---- one key

pub puts_key : (address c h r : ℕ) (old one two three new : Board) → address + 4 ≤ length (memory_of old) → PutsByte address c old one → PutsByte (address + 1) h one two → PutsByte (address + 2) r two three
    → PutsByte (address + 3) standard_code three new → PutsKey address c h r old new
puts_key address c h r old one two three new inside first second third fourth =
    let m = memory_of old in
    let m1 = slice_set m address c in
    let m2 = slice_set m1 (address + 1) h in
    let m3 = slice_set m2 (address + 2) r in
    let m4 = slice_set m3 (address + 3) standard_code in
    let at : memory_of new ≡ m4 = fourth.memory ∙ ap (λ n. slice_set n (address + 3) standard_code) (third.memory ∙ ap (λ n. slice_set n (address + 2) r) (second.memory ∙ ap (λ n. slice_set n (address + 1) h) first.memory)) in
    let l1 = length-set m address c in
    let l2 = length-set m1 (address + 1) h in
    let l3 = length-set m2 (address + 2) r in
    let l4 = length-set m3 (address + 3) standard_code in
    let byte = λ (k : ℕ). ap (λ n. slice_index n k) at in
    record {
      only = only_then old three new (only_then old two three (only_then old one two first.only second.only) third.only) fourth.only;
      size = ap length at ∙ (l4 ∙ (l3 ∙ (l2 ∙ l1)));
      key = record {
        first = byte address ∙ (set_there m3 (address + 3) standard_code address (λ e. omega (arith, e)) ∙ (set_there m2 (address + 2) r address (λ e. omega (arith, e))
            ∙ (set_there m1 (address + 1) h address (λ e. omega (arith, e)) ∙ set_here m address c (omega arith))));
        second = byte (address + 1) ∙ (set_there m3 (address + 3) standard_code (address + 1) (λ e. omega (arith, e)) ∙ (set_there m2 (address + 2) r (address + 1) (λ e. omega (arith, e))
            ∙ set_here m1 (address + 1) h (omega arith)));
        third = byte (address + 2) ∙ (set_there m3 (address + 3) standard_code (address + 2) (λ e. omega (arith, e)) ∙ set_here m2 (address + 2) r (omega arith));
        fourth = byte (address + 3) ∙ set_here m3 (address + 3) standard_code (omega arith);
      };
      others = λ k beside. byte k ∙ (set_there m3 (address + 3) standard_code k (away k beside 3 (omega arith)) ∙ (set_there m2 (address + 2) r k (away k beside 2 (omega arith))
          ∙ (set_there m1 (address + 1) h k (away k beside 1 (omega arith)) ∙ set_there m address c k (at_start k beside))));
    }
  where
    away : (k : ℕ) → ((k < address) ⊎ (address + 4 ≤ k)) → (i : ℕ) → i ≤ 3 → k ≢ address + i
    away k (inl below) i small e = omega (arith, e)
    away k (inr above) i small e = omega (arith, e)

    at_start : (k : ℕ) → ((k < address) ⊎ (address + 4 ≤ k)) → k ≢ address
    at_start k (inl below) e = omega (arith, e)
    at_start k (inr above) e = omega (arith, e)

-- ---- all of them, as a list

drop_next : (memory : List ℕ) (i j v : ℕ) → j ≡ i + 1 → i < length memory → slice_index memory i ≡ v → drop i memory ≡ v ∷ drop j memory
drop_next memory i j v next low is =
    let here : suc i ≡ j = omega arith in
    drop-cons memory i 0 low ∙ (ap (λ b. b ∷ drop (suc i) memory) is ∙ ap (λ n. v ∷ drop n memory) here)

four_dropped : (memory : List ℕ) (a c h r : ℕ) → a + 4 ≤ length memory → IsKeyAt memory a c h r → drop a memory ≡ c ∷ h ∷ r ∷ standard_code ∷ drop (a + 4) memory
four_dropped memory a c h r inside key =
    drop_next memory a (a + 1) c (omega arith) (omega arith) key.first
    ∙ (ap (λ l. c ∷ l) (drop_next memory (a + 1) (a + 2) h (omega arith) (omega arith) key.second)
    ∙ (ap (λ l. c ∷ h ∷ l) (drop_next memory (a + 2) (a + 3) r (omega arith) (omega arith) key.third)
    ∙ ap (λ l. c ∷ h ∷ r ∷ l) (drop_next memory (a + 3) (a + 4) standard_code (omega arith) (omega arith) key.fourth)))

keys_from : (n r a c h : ℕ) (memory : List ℕ) → a + n * 4 ≤ length memory → ((k : ℕ) → k < n → IsKeyAt memory (a + k * 4) c h (r + k))
    → flat_map key_bytes (map (key_of c h) (range_with_len r n)) ≡ take (4 * n) (drop a memory)
keys_from zero r a c h memory inside keys = refl
keys_from (suc n) r a c h memory inside keys =
    let at : a + 0 * 4 ≡ a = omega arith in
    let one : r + 0 ≡ r = omega arith in
    let first : IsKeyAt memory a c h r = subst (λ p. IsKeyAt memory p c h r) at (subst (λ q. IsKeyAt memory (a + 0 * 4) c h q) one (keys 0 (omega arith))) in
    let rest = keys_from n (r + 1) (a + 4) c h memory (omega arith) (λ k few.
    let place : a + (k + 1) * 4 ≡ a + 4 + k * 4 = omega arith in
    let next : r + (k + 1) ≡ r + 1 + k = omega arith in
    subst (λ p. IsKeyAt memory p c h (r + 1 + k)) place (subst (λ q. IsKeyAt memory (a + (k + 1) * 4) c h q) next (keys (k + 1) (omega arith)))) in
    let four : 4 * suc n ≡ suc (suc (suc (suc (4 * n)))) = omega arith in
    flat_map-cons key_bytes (key_of c h r) (map (key_of c h) (range_with_len (r + 1) n))
    ∙ (ap (λ l. c ∷ h ∷ r ∷ standard_code ∷ l) rest
    ∙ (ap (λ l. take (suc (suc (suc (suc (4 * n))))) l) (sym (four_dropped memory a c h r (omega arith) first)) ∙ ap (λ m. take m (drop a memory)) (sym four)))

pub keys_stand : (asked : Format) (old new : Board) → length (memory_of old) ≡ 1048576 → sectors_at asked.rate ≤ 18 → PutsKeys asked.c asked.h (sectors_at asked.rate) old new → HasKeys asked new
unfolding track_keys
keys_stand asked old new bytes few puts = record {
  many = length-map-range_with_len (key_of asked.c asked.h) 1 (sectors_at asked.rate);
  bytes = keys_from (sectors_at asked.rate) 1 keys_at asked.c asked.h (memory_of new) (let same = puts.size in omega arith)
      (λ k less. let next : k + 1 ≡ 1 + k = omega arith in subst (λ r. IsKeyAt (memory_of new) (keys_at + k * 4) asked.c asked.h r) next (puts.keys k less));
}

-- ---- the driver's view

pub idle_kept : (motors : Motors) (old new : Board) → OnlyMemory old new → IsIdle motors old → IsIdle motors new
idle_kept motors old new only was =
    still_idle motors old new only.controller (ap (λ l. l.level) only.latch) (ap (λ d. d.motor) only.first ∙ was.motors_are.first)
    (ap (λ d. d.motor) only.second ∙ was.motors_are.second) (subst InRange (sym only.first) was.first) (subst InRange (sym only.second) was.second) was

pub rig_kept : (old new : Board) → OnlyMemory old new → user_part (memory_of new) ≡ user_part (memory_of old) → rig_of new ≡ record (rig_of old) { page = page_part (memory_of new) }
rig_kept old new only same = rw (only.first, only.second, only.controller, only.holding, only.taken, only.direct, only.steps, only.gaps, same) refl

-- user memory is below the page
user_stays : (old new : List ℕ) → length old ≡ 1048576 → length new ≡ length old → ((k : ℕ) → k < user_bytes → slice_index new k ≡ slice_index old k) → user_part new ≡ user_part old
user_stays old new long size below = user_same old new user_bytes (length old) long (record {
  lengths = size;
  others = λ k where_k. elim where_k [ inl low ↦ below k low | inr high ↦ get_or_past new k 0 (omega arith) ∙ sym (get_or_past old k 0 (omega arith)) ];
}) (omega arith)

-- ---- a format whatever the page was

under_page : (r : Rig) (page : List ℕ) (bay : ℕ) (asked : Format) (disk : Disk) → HasTrackUnder r bay asked disk → HasTrackUnder (record r { page = page }) bay asked disk
under_page r page bay asked disk under = record { medium = under.medium; track = under.track; same_rate = under.same_rate }

lays_page : (r : Rig) (page : List ℕ) (bay : ℕ) (asked : Format) (laying : Option Laying) (new : Rig)
    → MatchOption laying (new.media ≡ r.media) (λ one. LaysMedium bay asked one (record r { page = page }) new) → MatchOption laying (new.media ≡ r.media) (λ one. LaysMedium bay asked one r new)
lays_page r page bay asked None new same = same
lays_page r page bay asked (Some one) new lays = record { before = lays.before; after = lays.after; was = lays.was; is = lays.is; same_rate = lays.same_rate; here = lays.here; makes = lays.makes }

miss_page : (r : Rig) (page : List ℕ) (bay : ℕ) (asked : Format) (told : Result (Unit {0}) Code) (new : Rig)
    → IfErr told (λ code. IsFormatMiss bay asked (record r { page = page }) code new) → IfErr told (λ code. IsFormatMiss bay asked r code new)
miss_page r page bay asked (Ok done) new miss = tt
miss_page r page bay asked (Err code) new miss = record {
  coded = miss.coded;
  reason = λ none. let (same, cannot) = miss.reason none in (same, λ (disk, under, fits). cannot (disk, under_page r page bay asked disk under, fits));
  overrun = miss.overrun;
}

pub other_page : (r : Rig) (page : List ℕ) (bay : ℕ) (asked : Format) (laying : Option Laying) (told : Result (Unit {0}) Code) (new : Rig)
    → FormatsTrack bay asked laying (record r { page = page }) told new → FormatsTrack bay asked laying r told new
other_page r page bay asked laying told new formats = record {
  sends = record {
    heads = record { cylinders = formats.sends.heads.cylinders; numbers = formats.sends.heads.numbers; changes = formats.sends.heads.changes; spun = formats.sends.heads.spun };
    other_medium = formats.sends.other_medium;
    memory = formats.sends.memory;
    counts = formats.sends.counts;
    driven = formats.sends.driven;
    command = formats.sends.command;
  };
  does = lays_page r page bay asked laying new formats.does;
  turn = λ none disk under. formats.turn none disk (under_page r page bay asked disk under);
  fits = λ ok none disk under. formats.fits ok none disk (under_page r page bay asked disk under);
  refused = miss_page r page bay asked told new formats.refused;
}

-- ---- the whole of it

pub format_whole : (motors : Motors) (bay : ℕ) (asked : Format) (outcome : Result Done Code) (old put new : Board) → IsIdle motors old → bay ≤ 1 → asked.h ≤ 1
    → in_bay (rig_of old).spun bay ≡ true → option_map_or (λ disk. disk.protected) (in_bay (rig_of old).media bay) false ≡ false → length (memory_of old) ≡ 1048576
    → sectors_at asked.rate ≤ 18 → PutsKeys asked.c asked.h (sectors_at asked.rate) old put → SendsFormatBytes motors bay asked put outcome new → InRange new.first → InRange new.second
    → IsFormatted motors bay asked outcome old new
format_whole motors bay asked outcome old put new idle small low spun free bytes few puts sends first second =
    let same = user_stays (memory_of old) (memory_of put) bytes puts.size (λ k below. puts.below k (omega arith)) in
    let rig = rig_kept old put puts.only same in
    let is = format_done motors bay asked outcome put new (idle_kept motors old put puts.only idle) small low (ap (λ r. in_bay r.spun bay) rig ∙ spun)
    (ap (λ r. option_map_or (λ disk. disk.protected) (in_bay r.media bay) false) rig ∙ free) (keys_stand asked old put bytes few puts) sends first second in
    record {
      idle = is.idle;
      laying = is.laying;
      formats = other_page (rig_of old) (page_part (memory_of put)) bay asked is.laying (told_of outcome) (rig_of new)
          (subst (λ r. FormatsTrack bay asked is.laying r (told_of outcome) (rig_of new)) rig is.formats);
      costs = let costs = subst (λ r. CostsFor bay 2 261 26 r (rig_of new)) rig is.costs in record { turn = costs.turn; costs = costs.costs };
    }

-- ---- in the form in which the code's contracts use it

pub format_as : (bay h sectors other gap3 fill : ℕ) (old new : Board) → sectors ≡ other → Sends (0x4D ∷ (h * 4 + bay) ∷ standard_code ∷ sectors ∷ gap3 ∷ fill ∷ []) old new
    → Sends (0x4D ∷ (h * 4 + bay) ∷ standard_code ∷ other ∷ gap3 ∷ fill ∷ []) old new
format_as bay h sectors other gap3 fill old new same sends = subst (λ n. Sends (0x4D ∷ (h * 4 + bay) ∷ standard_code ∷ n ∷ gap3 ∷ fill ∷ []) old new) same sends

pub track_as : (a b : Motors) (bay : ℕ) (asked : Format) (outcome : Result Done Code) (old new : Board) → a ≡ b → SendsFormatBytes a bay asked old outcome new → SendsFormatBytes b bay asked old outcome new
track_as a b bay asked outcome old new same sends = subst (λ m. SendsFormatBytes m bay asked old outcome new) same sends

-- ---- bytes that are sent one by one

-- one byte more
sends_more : (bytes : List ℕ) (byte : ℕ) (old between new : Board) → Sends bytes old between → Outputs 0x3F5 byte between new → Sends (bytes ++ byte ∷ []) old new
sends_more [] byte old between new same access = (new, subst (λ b. Outputs 0x3F5 byte b new) same access, refl)
sends_more (first ∷ rest) byte old between new (next, one, others) access = (next, one, sends_more rest byte next between new others access)

pub sends_next : (bytes : List ℕ) (i byte : ℕ) (old between new : Board) → i < length bytes → get_or bytes i 0 ≡ byte → Sends (take i bytes) old between
    → Outputs 0x3F5 byte between new → Sends (take (i + 1) bytes) old new
sends_next bytes i byte old between new below is sends access =
    let all : take (i + 1) bytes ≡ take i bytes ++ byte ∷ [] = take_more bytes i 0 below ∙ ap (λ b. take i bytes ++ b ∷ []) is in
    subst (λ list. Sends list old new) (sym all) (sends_more (take i bytes) byte old between new sends access)

-- ---- interrupts that are taken

pub settles_by : (old between new : Board) → Runs 1 (stirred old) between → new ≡ latch_taken between → old.bus.taken ≤ last_count → Settles old new
settles_by old between new runs taken small =
    let same : between.bus.taken ≡ old.bus.taken = runs_taken 1 (stirred old) between runs in
    let after = ap (λ b. b.bus.taken) taken in
    let (counts, most) = counted_if between.bus.latch.is_set between.bus.taken (omega arith) in
    record {
      between = between;
      runs = runs;
      taken = taken;
      counts = subst (λ n. old.bus.taken ≤ n) (sym after) (subst (λ n. n ≤ (if between.bus.latch.is_set then counted between.bus.taken else between.bus.taken)) same counts);
    }
