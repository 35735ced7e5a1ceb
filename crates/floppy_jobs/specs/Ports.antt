-- What the lines of a ports text spell.
use Rattle.std.specs.Prelude.{ℕ, List, [], ◌∷◌, Option, Some, None, codes, if◌then◌else◌}
use Rattle.std.specs.Str.{bytes_eq}
use Rattle.floppy_jobs.specs.Names.{name_of}
use Rattle.floppy_jobs.specs.Numbers.{byte_of, hex_byte_of}
use Rattle.floppy_jobs.specs.Numbers.{port_of, steps_of}
use Rattle.floppy_jobs.specs.Requests.{◌>>=◌}
use Rattle.floppy_jobs.specs.declared.ports.PortLine.{PortLine}
use Rattle.floppy_jobs.specs.declared.ports.PortLine.TheVariants as port

-- in PORT
unfoldable pub in_of : List (List ℕ) → Option PortLine
in_of (word ∷ []) = do
  number ← port_of word
  Some (port.In number)
in_of _ = None

-- out PORT BYTE
unfoldable pub out_of : List (List ℕ) → Option PortLine
out_of (word ∷ byte ∷ []) = do
  number ← port_of word
  value ← hex_byte_of byte
  Some (port.Out number value)
out_of _ = None

-- wait N
unfoldable pub wait_of : List (List ℕ) → Option PortLine
wait_of (word ∷ []) = do
  steps ← steps_of word
  Some (port.Wait steps)
wait_of _ = None

-- irq
unfoldable pub irq_of : List (List ℕ) → Option PortLine
irq_of [] = Some port.Irq
irq_of _ = None

-- insert D NAME
unfoldable pub port_insert_of : List (List ℕ) → Option PortLine
port_insert_of (d ∷ word ∷ []) = do
  bay ← byte_of d
  name ← name_of word
  Some (port.Insert bay name)
port_insert_of _ = None

-- eject D
unfoldable pub port_eject_of : List (List ℕ) → Option PortLine
port_eject_of (d ∷ []) = do
  bay ← byte_of d
  Some (port.Eject bay)
port_eject_of _ = None

-- any line of a ports text
unfoldable pub port_line_of : List (List ℕ) → Option PortLine
port_line_of [] = None
port_line_of (verb ∷ fields) =
    if bytes_eq verb (codes "in") then in_of fields
    else (if bytes_eq verb (codes "out") then out_of fields
    else (if bytes_eq verb (codes "wait") then wait_of fields
    else (if bytes_eq verb (codes "irq") then irq_of fields
    else (if bytes_eq verb (codes "insert") then port_insert_of fields
    else (if bytes_eq verb (codes "eject") then port_eject_of fields
    else None)))))
