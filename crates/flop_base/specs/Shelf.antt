-- Named files as contracts see them, with the stores that were made, and what each answer of a shelf says.
use Rattle.std.specs.Prelude.{◌≡◌, ◌<◌, ◌≤◌, ℕ, List, [], ◌∷◌, ◌++◌, length, Option, Some, None, Result, Ok, Err, Vec, IsSomeAnd}
use Rattle.std.specs.Option.{option_map}
use Rattle.std.specs.Ordering.{nat_cmp}
use Rattle.std.specs.Cmp.Lexicographic.{slice_cmp}
use Rattle.std.specs.declared.alloc.Global.{Global}
use Rattle.std.specs.FinMap as fin
use Rattle.flop_base.specs.declared.answers.LoadError.{LoadError}
use Rattle.flop_base.specs.declared.answers.LoadError.TheVariants.{Absent, TooLong, Failed, NoMemory}

-- a store that was made: these bytes, under this name
pub record Store : Type 0 where
  pub name : List ℕ
  pub bytes : List ℕ

-- what a shelf reports: its files by their names and, if it reports them too, the stores that were made, one after the
-- other
pub record Files : Type 0 where
  pub held : fin.FinMap (slice_cmp nat_cmp) (List ℕ)
  pub stores : Option (List Store)

-- no file, and nothing known of stores
abbrev pub no_files : Files
no_files = record { held = fin.empty; stores = None }

-- the bytes of a named file, if it is there
abbrev pub file_at : Files → List ℕ → Option (List ℕ)
file_at files name = fin.get files.held name

-- the stores with one more after them
abbrev pub one_more : List Store → List ℕ → List ℕ → List Store
one_more made name bytes = made ++ record { name = name; bytes = bytes } ∷ []

-- the files after a store: these bytes are under the name, all other files are as before, and one more store was made
abbrev pub after_store : Files → List ℕ → List ℕ → Files
after_store files name bytes = record {
  held = fin.insert files.held name bytes;
  stores = option_map (λ made. one_more made name bytes) files.stores;
}

-- the files after a store, if the shelf reports its files
abbrev pub stored : Option Files → List ℕ → List ℕ → Option Files
stored None name bytes = None
stored (Some files) name bytes = Some (after_store files name bytes)

-- what the answer of a load says of the files
abbrev pub Loads : Files → List ℕ → ℕ → Result (Vec ℕ Global) LoadError → Type 0
Loads files name most (Ok bytes) = (file_at files name ≡ Some bytes.items) × (length bytes.items ≤ most)
Loads files name most (Err Absent) = file_at files name ≡ None
Loads files name most (Err TooLong) = IsSomeAnd (file_at files name) (λ bytes. most < length bytes)
Loads files name most (Err Failed) = Unit {0}
Loads files name most (Err NoMemory) = Unit {0}
