-- What a node line is written out as. Assumes nothing.
use Rattle.std.specs.Prelude.{◌≡◌, List, ℕ, ◌-◌, ◌≤◌, eqb, length, Option, Some, None}
use Rattle.std.proofs.Math.Option as maybe
use Rattle.std.proofs.Math.Option.{none, some}
use Rattle.laws.specs.Basics.{choose}
use Rattle.rules.specs.Nodes.{write_text}
use Rattle.rules.specs.Sheet.{Line}
use Rattle.text_numbers.specs.Answers.{written}
use Rattle.sheet_nodes.specs.declared.Node.{Node}

unfoldable pub follow_of : ℕ → ℕ → ℕ
follow_of kind n = choose (eqb kind 10) n (choose (eqb kind 12) 1 0)

unfoldable pub line_answer : maybe.Option Line → Option Node
line_answer none = None
line_answer (some l) = Some (record { size = length l.node; follow = l.follow })

-- the node's bytes written from a place on; nothing where the line is bad
unfoldable pub line_bytes : List ℕ → ℕ → maybe.Option Line → List ℕ
line_bytes before at none = before
line_bytes before at (some l) = written before at l.node

-- how many bytes an answer says
abbrev pub size_of : Option Node → ℕ
size_of None = 0
size_of (Some n) = n.size

-- a line was written out, inside the room
pub record Lined (before : List ℕ) (at : ℕ) (x : maybe.Option Line) (after : List ℕ) (r : Option Node) : Type 0 where
  pub answer : r ≡ line_answer x
  pub bytes : after ≡ line_bytes before at x
  pub room : size_of r ≤ length before - at

-- a text was written, and its size answered
pub record TextWritten (before : List ℕ) (at : ℕ) (t after : List ℕ) (r : ℕ) : Type 0 where
  pub is : after ≡ written before at (write_text t)
  pub size : r ≡ length (write_text t)

unfoldable pub written_words : Unit {0}
unfolding follow_of line_answer line_bytes
written_words = tt
