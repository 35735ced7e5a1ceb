-- The files of a shelf in memory: look-ups and stores in its tree map are those of the files that it reports.
use Rattle.std.proofs.Common.{◌≡◌, ℕ, true, false, List, [], ◌∷◌, map, Some, Vec, String, string_bytes, cond, refl, sym, ap, ◌∙◌}
use Rattle.std.specs.declared.alloc.Global.{Global}
use Rattle.std.specs.declared.cmp.Ordering.TheVariants.{Less, Equal, Greater}
use Rattle.std.specs.Ordering.{nat_cmp, eq_by_cmp, match_ordering}
use Rattle.std.specs.Option.{option_map}
use Rattle.std.specs.Cmp.Lexicographic.{slice_cmp, nat_list_cmp_total}
use Rattle.std.specs.String.{string_cmp}
use Rattle.std.specs.BTreeMap.{insert_entry, is_at}
use Rattle.std.specs.Map.{lookup}
use Rattle.std.specs.FinMap as fin
use Rattle.std.specs.FinMap.Entries.{find-put, put, by_order}
use Rattle.memory_files.specs.MemShelf.{file_of}

abbrev Entries : Type 0
Entries = List (String Global × Vec ℕ Global)

-- a look-up by name in the tree map's entries
pub find-file_of : (entries : Entries) (name : List ℕ) → fin.find (slice_cmp nat_cmp) name (map file_of entries) ≡ option_map (λ bytes. bytes.items) (lookup (is_at (λ key. slice_cmp nat_cmp name (string_bytes key))) entries)
find-file_of [] name = refl
find-file_of (entry ∷ entries) name =
    elim (eq_by_cmp (slice_cmp nat_cmp) name (string_bytes entry.0))
    as (λ same. cond same (Some entry.1.items) (fin.find (slice_cmp nat_cmp) name (map file_of entries)) ≡ option_map (λ bytes. bytes.items) (cond same (Some entry.1) (lookup (is_at (λ key. slice_cmp nat_cmp name (string_bytes key))) entries)))
    [ true ↦ refl | false ↦ find-file_of entries name ]

pub file_at-entries : (entries : Entries) (name : List ℕ) → fin.get (fin.from_entries {R = slice_cmp nat_cmp} (map file_of entries)) name ≡ option_map (λ bytes. bytes.items) (lookup (is_at (λ key. slice_cmp nat_cmp name (string_bytes key))) entries)
file_at-entries entries name = fin.get-from_entries nat_list_cmp_total (map file_of entries) name ∙ find-file_of entries name

-- an insertion into the tree map's entries
map-insert_entry : (entries : Entries) (name : String Global) (bytes : Vec ℕ Global) → map file_of (insert_entry string_cmp entries name bytes) ≡ put (slice_cmp nat_cmp) (string_bytes name) bytes.items (map file_of entries)
map-insert_entry [] name bytes = refl
map-insert_entry (entry ∷ entries) name bytes =
    elim (string_cmp name entry.0)
    as (λ order. map file_of (match_ordering order ((name, bytes) ∷ entry ∷ entries) ((entry.0, bytes) ∷ entries) (entry ∷ insert_entry string_cmp entries name bytes)) ≡ by_order order (file_of (name, bytes) ∷ file_of entry ∷ map file_of entries) ((string_bytes entry.0, bytes.items) ∷ map file_of entries) (file_of entry ∷ put (slice_cmp nat_cmp) (string_bytes name) bytes.items (map file_of entries)))
    [ Less ↦ refl | Equal ↦ refl | Greater ↦ ap (λ rest. file_of entry ∷ rest) (map-insert_entry entries name bytes) ]

pub files-insert_entry : (entries : Entries) (name : String Global) (bytes : Vec ℕ Global) → fin.from_entries {R = slice_cmp nat_cmp} (map file_of (insert_entry string_cmp entries name bytes)) ≡ fin.insert (fin.from_entries (map file_of entries)) (string_bytes name) bytes.items
files-insert_entry entries name bytes =
    fin.same_map nat_list_cmp_total (fin.slice_cmp-IsAntisymmetric fin.nat_cmp-IsAntisymmetric) _ _
    (λ other. fin.get-from_entries nat_list_cmp_total _ other
    ∙ ap (fin.find (slice_cmp nat_cmp) other) (map-insert_entry entries name bytes)
    ∙ find-put (slice_cmp nat_cmp) nat_list_cmp_total other (string_bytes name) bytes.items (map file_of entries)
    ∙ sym (fin.get-insert nat_list_cmp_total (fin.from_entries (map file_of entries)) (string_bytes name) bytes.items other
    ∙ ap (cond (eq_by_cmp (slice_cmp nat_cmp) other (string_bytes name)) (Some bytes.items)) (fin.get-from_entries nat_list_cmp_total (map file_of entries) other)))

-- the same, by the bytes of the name and of the file
pub files-stored : (old new : Entries) (name : String Global) (bytes : Vec ℕ Global) (spelled content : List ℕ) → new ≡ insert_entry string_cmp old name bytes → string_bytes name ≡ spelled → bytes.items ≡ content → fin.from_entries {R = slice_cmp nat_cmp} (map file_of new) ≡ fin.insert (fin.from_entries (map file_of old)) spelled content
files-stored old new name bytes spelled content entries named kept =
    ap (λ es. fin.from_entries {R = slice_cmp nat_cmp} (map file_of es)) entries
    ∙ files-insert_entry old name bytes
    ∙ ap (λ n. fin.insert (fin.from_entries (map file_of old)) n bytes.items) named
    ∙ ap (λ b. fin.insert (fin.from_entries (map file_of old)) spelled b) kept
