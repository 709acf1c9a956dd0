-- The build of a value from the first node on, in the lent lists, and marks in which no definition has begun. Assumes nothing.
use mathlib.Core.Path.{◌≡◌, refl, sym, ap, ◌∙◌}
use mathlib.Core.List.{List}
use Prim.Native.Nat.{ℕ, ◌*◌, ◌/◌, ◌≤◌, ◌<◌}
use native.Mathlib.Omega.{arith}
use lib.ListN.{length, get_or}
use Rattle.rules.specs.Numbers.{most_nodes}
use Rattle.rules.specs.Cells.{Scalar, slot, scalar}
use Rattle.rules.specs.Cells as cells
use Rattle.rules.specs.Nodes.{Atom, Node, write_scalar, nodes_rules}
use Rattle.rules.specs.Heap.{Heap}
use Rattle.rules.specs.Layout.{Rooms}
use Rattle.rules.specs.Sound.{value_named, sound_rules}
use Rattle.std.specs.Prelude as code
use Rattle.leaf_rooms.specs.Rooms.{stored}
use Rattle.leaf_cells.specs.Elements.{value_of}
use Rattle.leaf_cells.specs.declared.Value.{Value}
use Rattle.leaf_cells.specs.declared.Value.TheVariants as code_value
use Rattle.leaf_write.specs.declared.Page.{Page}
use Rattle.leaf_write.specs.Pages.{Noted}
use Rattle.heap_build.specs.Drafts.{draft}
use Rattle.heap_build.specs.Tasks.{Job, inside, Shows, Task, Done}
use Rattle.heap_build.proofs.StepLaws.{draft_scalar, left_as, noted_left}
use Rattle.heap_build.proofs.Cycle.{scalar_size}
use Rattle.heap_read.specs.Whole.{ValueTask, ValueDone, blank_draft}

abbrev pub first_page : Page
first_page = record { left = 4096; at = 0 }

-- ---- a value

module _ (r : Rooms) (h : Heap) (labels : List ℕ) (v : Value) (words bytes elems marks out : List ℕ) (t : ValueTask r h labels (value_of v) words bytes elems marks) where
  abbrev pub first_job : Job
  first_job = record { rooms = r; heap = h; labels = labels; depth = most_nodes; draft = blank_draft; start = out }

  first_shows : Shows labels out blank_draft first_page marks out
  unfolding stored
  first_shows =
      record { left_is = refl; at_is = refl; out_is = refl; marks_are = t.marked; small = omega arith }

  pub slot_task : (s : ℕ) → v ≡ code_value.Slot s → Task first_job s first_page words bytes elems marks out
  unfolding sound_rules
  slot_task s e =
      record {
        ready =
            record {
              stands = t.held.stands;
              bytes_are = t.held.bytes_are;
              shows = first_shows;
              few = omega arith;
              room = t.held.room;
            };
        used = ap (λ (x : Value). value_named h (value_of x)) (sym e) ∙ t.held.named;
      }

  pub slot_value : (s : ℕ) → v ≡ code_value.Slot s → (p : code.Option Page) (marks' out' : List ℕ) → Done first_job s p marks' out' → ValueDone h labels (value_of v) out p marks' out'
  unfolding inside
  slot_value s e p marks' out' d =
      record {
        left =
            left_as labels out most_nodes (draft most_nodes h labels (slot s) blank_draft) (draft most_nodes h labels (value_of v) blank_draft) p marks' out'
            (ap (λ (x : Value). draft most_nodes h labels (value_of x) blank_draft) (sym e)) d.left;
      }

  pub scalar_value : (x : Scalar) → value_of v ≡ scalar x → (p : code.Option Page) (after : List ℕ) → Noted out (write_scalar x) first_page after p → ValueDone h labels (value_of v) out p marks after
  unfolding nodes_rules
  scalar_value x e p after n =
      record {
        left =
            left_as labels out most_nodes _ (draft most_nodes h labels (value_of v) blank_draft) p marks after
            (sym
            (ap (λ (y : cells.Value). draft most_nodes h labels y blank_draft) e
            ∙ draft_scalar most_nodes h labels x blank_draft (omega arith)))
            (noted_left labels out blank_draft first_page marks out first_shows (Node.atom (Atom.plain x)) (scalar_size x) after p n);
      }

-- ---- no definition has begun any more

abbrev pub freed : ℕ → ℕ
freed m = m / 4 * 4

-- the marks below a place are changed
pub record Forgotten (before : List ℕ) (i : ℕ) (marks : List ℕ) : Type 0 where
  pub size : length marks ≡ length before
  pub passed : i ≤ length before
  pub low : (s : ℕ) → s < i → get_or marks s 0 ≡ freed (get_or before s 0)
  pub high : (s : ℕ) → i ≤ s → get_or marks s 0 ≡ get_or before s 0
