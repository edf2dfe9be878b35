-- A change that is made in rows.
use Rattle.std.proofs.Common.{◌≡◌, ℕ, ◌<◌, List, sym, ap, subst}
use Rattle.key_bytes.specs.Lengths.{IsKey}
use Rattle.map_model.specs.declared.refusal.TableFull.{TableFull}
use Rattle.anchor_rules.specs.Anchors.{Anchors, with_split, with_merge}
use Rattle.row_words.specs.declared.shape.Shape.{Shape}
use Rattle.meta_trie.specs.Stands.{StandsFor, AreItemsFull, CanSplit}
use Rattle.meta_trie.specs.Shrinks.{CanMerge}
use Rattle.meta_trie.specs.Lags.{turned, CanTurn, FitsTurn, CanTurnRows}
use Rattle.meta_trie.specs.declared.lags.Lag.{Lag}
use Rattle.meta_trie.specs.declared.lags.Lag.TheVariants.{Same, Split, Merge}
use Rattle.meta_trie.proofs.Building.{not_full}
use Rattle.meta_trie.proofs.Merging.{adjacent_can_merge}
use Rattle.meta_trie.proofs.Room.{split_leaf_below, split_key, split_fits}

-- a change has room in each table of the shape, where some rows stand for the anchors with it
pub turn_fits : (k : Shape) (ws : List ℕ) (A : Anchors) (lag : Lag) → CanTurn A lag → StandsFor k ws (turned A lag) → FitsTurn k A lag
turn_fits k ws A Same can s = tt
turn_fits k ws A (Split left a right) can s = (split_key k ws A left a right s can, split_leaf_below k ws A left a right s can, split_fits k ws A left a right s can)
turn_fits k ws A (Merge left right) can s = tt

module _ (k : Shape) (ws : List ℕ) (lag : Lag) (c : CanTurnRows k ws lag) (left : ℕ) (a : List ℕ) (right : ℕ) (e : lag ≡ Split left a right) where
  fits : FitsTurn k c.0 (Split left a right)
  fits = subst (FitsTurn k c.0) e c.1.2

  pub lag_splits : CanSplit k ws left a right
  lag_splits = (c.0, (c.1.0, subst (CanTurn c.0) e c.1.1))

  pub lag_key : IsKey a
  lag_key = fits.0

  pub lag_leaf : right < k.leaves
  lag_leaf = fits.1

  pub lag_room : (full : TableFull) → ((A : Anchors) → StandsFor k ws A → AreItemsFull k A left a full) → ⊥
  lag_room full is = not_full k c.0 left a full fits.2 (is c.0 c.1.0)

pub lag_split : (k : Shape) (new : List ℕ) (lag : Lag) (A : Anchors) (left : ℕ) (a : List ℕ) (right : ℕ) → lag ≡ Split left a right → StandsFor k new (with_split A left a right) → StandsFor k new (turned A lag)
lag_split k new lag A left a right e s = subst (StandsFor k new) (sym (ap (turned A) e)) s

pub lag_merges : (k : Shape) (ws : List ℕ) (lag : Lag) → CanTurnRows k ws lag → (left right : ℕ) → lag ≡ Merge left right → CanMerge k ws right
lag_merges k ws lag c left right e = adjacent_can_merge k ws c.0 left right c.1.0 (subst (CanTurn c.0) e c.1.1)

pub lag_merge : (k : Shape) (new : List ℕ) (lag : Lag) (A : Anchors) (left right : ℕ) → lag ≡ Merge left right → StandsFor k new (with_merge A right) → StandsFor k new (turned A lag)
lag_merge k new lag A left right e s = subst (StandsFor k new) (sym (ap (turned A) e)) s
