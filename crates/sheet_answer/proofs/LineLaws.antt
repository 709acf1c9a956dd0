-- What printing needs to know: a line and a heap lie within what was lent. Assumes nothing.
use mathlib.Core.Path.{◌≡◌, sym}
use mathlib.Core.Bool.{true}
use mathlib.Core.List.{List}
use Prim.Native.Nat.{ℕ, ◌+◌, ◌*◌, ◌/◌, ◌≤◌}
use native.Mathlib.Omega.{arith}
use lib.ListN.{length, take}
use lib.Seq.{length-take-le}
use Rattle.laws.specs.Basics.{zeros}
use Rattle.rules.specs.Layout.{map_bytes}
use Rattle.rules.specs.Sound.{sound}
use Rattle.heap_sound_rows.specs.Rows.{lists}
use Rattle.std.specs.Prelude.{Ok}
use Rattle.sheet_run.specs.declared.Listed.{Listed}
use Rattle.sheet_run.specs.Running.{RoomsLent, ran_so, RanSo}

-- a part has the length that was asked for
pub part_long : (n : ℕ) (l : List ℕ) → n ≤ length l → n ≡ length (take n l)
part_long n l h = sym (length-take-le n l h)

-- what a run that is to be listed left
pub record Left (words map bytes elems roots : List ℕ) (slots count : ℕ) : Type 0 where
  pub whole : sound (lists (take (8 + 8 * slots) words) (take ((slots + 3) / 4) map) bytes elems) ≡ true
  pub few : slots ≤ 192
  pub room : count ≤ length roots

pub left_by : (text words map bytes elems roots : List ℕ) (l : Listed) → RanSo text words map bytes elems roots (Ok l) → Left words map bytes elems roots l.slots l.count
unfolding ran_so map_bytes
left_by text words map bytes elems roots l s = let g = s.is in record { whole = g.1; few = g.2; room = g.3 }

-- the room of the program's arrays
pub lent_room : (words map bytes elems scratch nodes ends roots : List ℕ) → length words ≡ 1544 → length map ≡ 48 → length bytes ≡ 8192 → length elems ≡ 6144 → scratch ≡ zeros 1664 → length nodes ≡ 65545 → length ends ≡ 6554 → length roots ≡ 6554 → RoomsLent words map bytes elems scratch nodes ends roots
lent_room words map bytes elems scratch nodes ends roots a b c d e f g h =
    record {
      rows = a;
      states = b;
      texts = c;
      values = d;
      clear = e;
      written = omega (arith, f);
      places = g;
      kept = h;
    }
