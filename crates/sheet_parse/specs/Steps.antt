-- The steps of the parse, line by line, and what they come to. Assumes nothing.
use Rattle.std.specs.Prelude.{◌≡◌, Bool, true, false, List, [], ◌∷◌, ℕ, zero, suc, ◌+◌, ◌-◌, ◌^◌, ◌≤◌, ◌<◌, eqb, length, take, drop, set}
use Rattle.std.proofs.Math.Option.{Option, none, some}
use Rattle.laws.specs.Basics.{ascii, choose, join, same, zeros}
use Rattle.rules.specs.Sheet.{Line, lines, then_read, node_line, node_lines, header_line}
use Rattle.text_numbers.specs.Answers.{written}
use Rattle.sheet_keys.specs.Places.{first_from}
use Rattle.sheet_parse.specs.declared.Header.{Header}
use Rattle.sheet_parse.specs.declared.Front as code
use Rattle.sheet_parse.specs.declared.Reading.{Reading}
use Rattle.sheet_parse.specs.declared.Reading.TheVariants as reading
use Rattle.sheet_parse.specs.declared.Nodes.{Nodes}
use Rattle.std.specs.Prelude as std
use Rattle.std.specs.Prelude.{Some, None}
use Rattle.sheet_parse.specs.declared.Progress.{Progress}

-- ---- the header's lines

-- the number of a line, and where the next line begins
pub record Numbered : Type 0 where
  pub number : ℕ
  pub next : ℕ

unfoldable pub line_number : List ℕ → List ℕ → ℕ → ℕ → Option Numbered
line_number key t at e =
    then_read (header_line key (take (e - at) (drop at t))) (λ n. some (record { number = n; next = e + 1 }))

-- the line at a place, which is to have the key
unfoldable pub header_at : List ℕ → List ℕ → ℕ → Option Numbered
unfolding line_number
header_at key t at = then_read (first_from 10 at (drop at t)) (line_number key t at)

abbrev pub header_told : std.Option Header → Option Numbered
header_told None = none
header_told (Some h) = some (record { number = h.number; next = h.next })

abbrev pub header_next : std.Option Header → ℕ
header_next None = 0
header_next (Some h) = h.next

pub record HeaderRead (key t : List ℕ) (at : ℕ) (r : std.Option Header) : Type 0 where
  pub is : header_told r ≡ header_at key t at
  pub inside : header_next r ≤ length t

-- chunk and slots, and where the data begin
pub record Front : Type 0 where
  pub chunk : ℕ
  pub slots : ℕ
  pub next : ℕ

unfoldable pub slots_after : List ℕ → Numbered → Option Front
unfolding header_at
slots_after t a =
    then_read (header_at (ascii "slots=") t a.next) (λ b. some (record { chunk = a.number; slots = b.number; next = b.next }))

unfoldable pub front_of : List ℕ → Option Front
unfolding header_at slots_after
front_of t = then_read (header_at (ascii "chunk=") t 0) (slots_after t)

abbrev pub front_told : std.Option code.Front → Option Front
front_told None = none
front_told (Some f) = some (record { chunk = f.chunk; slots = f.slots; next = f.next })

abbrev pub front_next : std.Option code.Front → ℕ
front_next None = 0
front_next (Some f) = f.next

pub record FrontRead (t : List ℕ) (r : std.Option code.Front) : Type 0 where
  pub is : front_told r ≡ front_of t
  pub inside : front_next r ≤ length t

-- ---- the lines of the data

-- what a line is told to be; a node with the place of the next line
pub data Told : Type 0 where
  bad last : Told
  node : Line → ℕ → Told

-- a line, where the next begins, and whether the text ends there
unfoldable pub line_told : List ℕ → ℕ → Bool → Told
line_told line next ended =
    elim (same line (ascii "end=")) [
      | true ↦ choose ended last bad
      | false ↦ elim (node_line line) [ none ↦ bad | some l ↦ node l next ]
    ]

unfoldable pub told_at : List ℕ → ℕ → Told
unfolding line_told
told_at t at =
    elim (first_from 10 at (drop at t)) [
      | none ↦ bad
      | some e ↦ line_told (take (e - at) (drop at t)) (e + 1) (eqb (e + 1) (length t))
    ]

abbrev pub node_read : ℕ → ℕ → ℕ → std.Option Reading
node_read size follow next = Some (reading.Node (record { size = size; follow = follow }) next)

unfoldable pub reading_of : Told → std.Option Reading
reading_of bad = None
reading_of last = Some reading.Last
reading_of (node l next) = node_read (length l.node) l.follow next

-- a node's bytes written from a place on
unfoldable pub read_bytes : List ℕ → ℕ → Told → List ℕ
read_bytes before at bad = before
read_bytes before at last = before
read_bytes before at (node l next) = written before at l.node

pub record LineRead (before : List ℕ) (at : ℕ) (x : Told) (after : List ℕ) (r : std.Option Reading) : Type 0 where
  pub answer : r ≡ reading_of x
  pub bytes : after ≡ read_bytes before at x

-- ---- progress

abbrev pub begun_at : ℕ → Progress
begun_at from = record { at = from; used = 0; start = 0; wants = 1; count = 0 }

-- there is room for a node more
pub record Roomy (p : Progress) (size follow room : ℕ) : Type 0 where
  pub wanted : 1 ≤ p.wants
  pub sized : p.used + size < 2 ^ 64
  pub followed : p.wants + follow < 2 ^ 64
  pub place : p.count < room

-- so many bytes are written, and so many data wanted
unfoldable pub stepped_to : Progress → ℕ → ℕ → ℕ → Progress
stepped_to p next used zero = record { at = next; used = used; start = used; wants = 1; count = p.count + 1 }
stepped_to p next used (suc n) = record { at = next; used = used; start = p.start; wants = suc n; count = p.count }

unfoldable pub stepped_ends_to : List ℕ → Progress → ℕ → ℕ → List ℕ
stepped_ends_to ends p used zero = set ends p.count used
stepped_ends_to ends p used (suc n) = ends

-- one node more
unfoldable pub stepped : Progress → ℕ → ℕ → ℕ → Progress
unfolding stepped_to
stepped p size follow next = stepped_to p next (p.used + size) (p.wants - 1 + follow)

unfoldable pub stepped_ends : List ℕ → Progress → ℕ → ℕ → List ℕ
unfolding stepped_ends_to
stepped_ends ends p size follow = stepped_ends_to ends p (p.used + size) (p.wants - 1 + follow)

-- the end of a datum begun, if one is
unfoldable pub last_end : ℕ → ℕ → List ℕ
last_end start used = elim (eqb start used) [ true ↦ [] | false ↦ used ∷ [] ]

unfoldable pub finished : Progress → ℕ
unfolding last_end
finished p = p.count + length (last_end p.start p.used)

unfoldable pub finished_ends : List ℕ → Progress → List ℕ
unfolding last_end
finished_ends ends p = written ends p.count (last_end p.start p.used)

-- ---- the whole

-- the nodes of the lines from a place on
unfoldable pub nodes_from : List ℕ → ℕ → Option (List Line)
nodes_from t at = then_read (lines (drop at t)) node_lines

-- where the data end: where the datum begun begins, the bytes so far, how many data it still wants, the nodes to come
unfoldable pub ends_from : ℕ → ℕ → ℕ → List Line → List ℕ
unfolding last_end
ends_from start used wants [] = last_end start used
ends_from start used wants (l ∷ ls) =
    elim (wants - 1 + l.follow) [
      | zero ↦ (used + length l.node) ∷ ends_from (used + length l.node) (used + length l.node) 1 ls
      | suc n ↦ ends_from start (used + length l.node) (suc n) ls
    ]

unfoldable pub bytes_from : List Line → List ℕ
bytes_from ls = join (λ (l : Line). l.node) ls

-- what is answered, and what the two rooms hold
pub record Outcome : Type 0 where
  pub answer : std.Option Nodes
  pub bytes : List ℕ
  pub ends : List ℕ

abbrev pub nodes_of : ℕ → ℕ → std.Option Nodes
nodes_of count used = Some (record { count = count; used = used })

abbrev pub come_to : std.Option Nodes → List ℕ → List ℕ → Outcome
come_to r out ends = record { answer = r; bytes = out; ends = ends }

-- what a progress comes to with the nodes to come; zero where there is a bad line among them
unfoldable pub outcome : List ℕ → List ℕ → Progress → Option (List Line) → Outcome
unfolding ends_from bytes_from
outcome out ends p none = come_to None (zeros (length out)) (zeros (length ends))
outcome out ends p (some ls) =
    come_to
    (nodes_of (p.count + length (ends_from p.start p.used p.wants ls)) (p.used + length (bytes_from ls)))
    (written out p.used (bytes_from ls))
    (written ends p.count (ends_from p.start p.used p.wants ls))

abbrev pub count_of : std.Option Nodes → ℕ
count_of None = 0
count_of (Some n) = n.count

abbrev pub used_of : std.Option Nodes → ℕ
used_of None = 0
used_of (Some n) = n.used

-- the lines from a place on were read, inside the room
pub record NodesRead (t : List ℕ) (from : ℕ) (out₀ ends₀ out ends : List ℕ) (r : std.Option Nodes) : Type 0 where
  pub is : come_to r out ends ≡ outcome out₀ ends₀ (begun_at from) (nodes_from t from)
  pub room : used_of r ≤ length out₀
  pub few : count_of r ≤ length ends₀

unfoldable pub steps_words : Unit {0}
unfolding line_number header_at slots_after front_of line_told told_at reading_of read_bytes stepped_to stepped_ends_to stepped stepped_ends
    last_end finished finished_ends nodes_from ends_from bytes_from outcome
steps_words = tt
