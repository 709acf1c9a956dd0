-- A node written into the output: one of those left is spent, and its bytes are stored as far as the output reaches. Where none
-- is left there is no page after it, and the output stays. Assumes nothing.
use Rattle.std.specs.Prelude.{◌≡◌, Option, Some, None, List, ℕ, ◌+◌, ◌-◌, eqb, length}
use Rattle.laws.specs.Basics.{choose}
use Rattle.leaf_rooms.specs.Rooms.{stored}
use Rattle.leaf_write.specs.declared.Page.{Page}

-- the page after a node of these bytes, if one is left
unfoldable pub noted : Page → List ℕ → Option Page
noted p bs = choose (eqb p.left 0) None (Some (record { left = p.left - 1; at = p.at + length bs }))

pub record Noted (before bs : List ℕ) (p : Page) (after : List ℕ) (r : Option Page) : Type 0 where
  pub page_is : r ≡ noted p bs
  pub out_is : after ≡ choose (eqb p.left 0) before (stored before p.at bs)
