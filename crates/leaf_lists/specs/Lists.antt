-- What lent lists hold, in the rules' words, and that lists lent to be changed are still the same four. Assumes nothing.
use Rattle.std.specs.Prelude.{◌≡◌}
use Rattle.rules.specs.Layout.{Lent}
use Rattle.leaf_lists.specs.declared.Lists.{Lists}
use Rattle.leaf_lists.specs.declared.ListsMut.{ListsMut}

-- what lists lent to be read hold
abbrev pub lent_of : Lists → Lent
lent_of h = record { words = h.words.now; map = h.map.now; bytes = h.bytes.now; elems = h.elems.now }

-- what lists lent to be changed hold
abbrev pub held : ListsMut → Lent
held h = record { words = h.words.now; map = h.map.now; bytes = h.bytes.now; elems = h.elems.now }

-- a call leaves in the caller's hand the four lists that it was lent, and no others
abbrev pub SameLists : ListsMut → ListsMut → Type 0
SameLists h k =
    (k.words.ghost_name ≡ h.words.ghost_name) × (k.map.ghost_name ≡ h.map.ghost_name)
    × (k.bytes.ghost_name ≡ h.bytes.ghost_name) × (k.elems.ghost_name ≡ h.elems.ghost_name)
