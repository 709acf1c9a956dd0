-- A symbol, found or made. Assumes nothing.
use mathlib.Core.Path.{◌≡◌, refl, sym, ap, ◌∙◌, subst, subst₂}
use mathlib.Core.List.{List, []}
use mathlib.Core.Option.{Option, none, some}
use Prim.Native.Nat.{ℕ, ◌+◌, ◌*◌, ◌≤◌, ◌<◌}
use native.Mathlib.Omega.{arith}
use lib.ListN.{length}
use Rattle.laws.proofs.Options.{none_some}
use Rattle.rules.specs.Cells.{slot, symbol, block}
use Rattle.rules.specs.Heap.{Heap, Entry, alloc, found, with_cell, with_bytes, block_after}
use Rattle.rules.specs.Put.{Put, making, put_as, make_symbol, put_symbol, put_rules}
use Rattle.leaf_rooms.specs.Rooms.{Appended}
use Rattle.leaf_symbols.specs.Table.{Tabled, bytes_used, count_of, entry, added, found_in, slot_of}
use Rattle.leaf_find.specs.Finds.{shown_found}
use Rattle.std.specs.Prelude as code
use Rattle.std.specs.Prelude.{Some, None}
use Rattle.leaf_symbols.proofs.TableLaws.{tabled, bytes_within, found_is, row_left, added_is}
use Rattle.heap_steps.specs.Steps.{CellMade, Left, SymbolOpen, SymbolMade, SymbolReady, SymbolPut}
use Rattle.heap_steps.proofs.Sizes.{alloc_taken}
use Rattle.heap_steps.proofs.CellSteps.{sized_of, growing_bytes, shows_text}

-- ---- made

module _ (n room : ℕ) (h : Heap) (name words map bytes : List ℕ) (o : SymbolOpen n room h name words map bytes) (ws bs : List ℕ) (place : ℕ) (a : Appended words ws bytes bs name place) (s : ℕ) (after m : List ℕ) (c : CellMade n (with_bytes h name) (symbol (block place (length name))) s after m) where
  -- the heap with the symbol's cell, before its entry
  abbrev shown : Heap
  shown = with_cell (alloc (with_bytes h name)).heap (alloc (with_bytes h name)).slot (symbol (block_after h.bytes (length name)))

  standing : Left n room shown after m bs
  unfolding put_rules
  standing = shows_text n room h name words map bytes o.text ws bs place a symbol s after m c

  table_kept : shown.table ≡ h.table
  table_kept =
      (alloc_taken (with_bytes h name) (sized_of n (with_bytes h name) (growing_bytes n h name o.text.ready.growing))).table

  table_room : length shown.table < n
  table_room = omega (arith, ap length table_kept, o.table)

  pub entry_row : 8 * count_of after + 16 ≤ length after
  entry_row =
      subst (λ (w : List ℕ). 8 * count_of w + 16 ≤ length w) (sym standing.words_are) (row_left n shown table_room)

  pub symbol_made : (scope : ℕ) (last : List ℕ) → last ≡ added after (entry s scope) → SymbolMade n room h name scope s last m bs
  unfolding put_rules
  symbol_made scope last e =
      record {
        value_is = ap slot c.slot_is;
        left =
            record {
              words_are =
                  e ∙ (λ i. added (standing.words_are i) (entry (c.slot_is i) scope))
                  ∙ added_is n shown (entry (alloc (with_bytes h name)).slot scope) table_room;
              map_is = standing.map_is;
              bytes_are = standing.bytes_are;
            };
      }

-- ---- found or made

module _ (n room : ℕ) (h : Heap) (name : List ℕ) (scope : ℕ) (words map bytes : List ℕ) (o : SymbolReady n room h name scope words map bytes) where
  pub find_tabled : Tabled words
  find_tabled = subst (λ (w : List ℕ). Tabled w) (sym o.standing.words_are) (tabled n h o.table_fits)

  pub find_bytes : bytes_used words ≤ length bytes
  find_bytes =
      subst₂ (λ (w b : List ℕ). bytes_used w ≤ length b) (sym o.standing.words_are) (sym o.standing.bytes_are)
      (bytes_within n room h o.bytes_fit)

  is_found : (r : code.Option ℕ) → shown_found r ≡ found_in words bytes name scope → shown_found r ≡ slot_of (found h name scope)
  is_found r e =
      e ∙ (λ i. found_in (o.standing.words_are i) (o.standing.bytes_are i) name scope) ∙ found_is n room h o.table_fits name scope

  pub missing : none ≡ found_in words bytes name scope → found h name scope ≡ none
  missing e = go (found h name scope) (is_found None e)
    where
      go : (x : Option Entry) → none ≡ slot_of x → x ≡ none
      go none q = refl
      go (some y) q = absurd (none_some q)

  put_by : Option Entry → Put
  put_by x = elim x [ none ↦ make_symbol name scope (making h []) | some e ↦ put_as (slot e.slot) (making h []) ]

  pub made_open : none ≡ found_in words bytes name scope → SymbolOpen n room h name words map bytes
  made_open e = o.new (missing e)

  pub was_made : (s : ℕ) (ws m bs : List ℕ) → none ≡ found_in words bytes name scope → SymbolMade n room h name scope s ws m bs → SymbolPut n room h name scope s ws m bs
  unfolding put_rules put_by
  was_made s ws m bs e k =
      let q : put_symbol name scope (making h []) ≡ make_symbol name scope (making h []) = ap put_by (missing e) in
      record {
        value_is = k.value_is ∙ sym (ap (λ (p : Put). p.value) q);
        left = subst (λ (p : Put). Left n room p.making.heap ws m bs) (sym q) k.left;
      }

  pub was_found : (s : ℕ) → some s ≡ found_in words bytes name scope → SymbolPut n room h name scope s words map bytes
  unfolding put_rules put_by
  was_found s e = go (found h name scope) refl (is_found (Some s) e)
    where
      go : (x : Option Entry) → found h name scope ≡ x → some s ≡ slot_of x → SymbolPut n room h name scope s words map bytes
      go none q p = absurd (none_some (sym p))
      go (some y) q p =
          let k : put_symbol name scope (making h []) ≡ put_as (slot y.slot) (making h []) = ap put_by q in
          let same : s ≡ y.slot = cc in
          record {
            value_is = ap slot same ∙ sym (ap (λ (p : Put). p.value) k);
            left = subst (λ (p : Put). Left n room p.making.heap words map bytes) (sym k) o.standing;
          }
