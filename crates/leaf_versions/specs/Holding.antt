-- Leaves that a view holds with their content out, and how a lock makes one.
use Rattle.std.specs.Prelude.{◌≡◌, ℕ, ◌+◌, ◌/◌, ◌%◌, ◌<◌, ◌≤◌, List, [], ◌∷◌, ◌++◌, length, Some, slice_set}
use Rattle.row_words.specs.declared.shape.Shape.{Shape}
use Rattle.map_model.specs.History.{Entry}
use Rattle.board_rule.specs.declared.view.View.{View}
use Rattle.board_rule.specs.Cells.{Map, shown, Holding, away}
use Rattle.board_rule.specs.Rule.{leaf_word}
use Rattle.board_rule.specs.Views.{held_at, has, HasAway}
use Rattle.board_rule.specs.Steps.{Sees, IsPart, HasOneSpan}
use Rattle.leaf_versions.specs.declared.held.Held.{Held}

-- the view holds this leaf, with its content out and this date
pub record IsHeld (k : Shape) (v : View) (held : Held) : Type 0 where
  pub near : held.leaf < k.leaves
  pub away : HasAway v held.leaf
  pub dated : (has v held.leaf).word / 256 ≡ held.date

-- a leaf that was just locked, with its content out
abbrev pub taken_out : ℕ → Map → Holding
taken_out word m = record { word = word; map = m; spot = away }

-- the view after a leaf was locked at the end of the history `log`, and its content moved out
abbrev pub held_out : ℕ → ℕ → ℕ → ℕ → Map → List Entry → View → View
held_out word leaf before lane m log v = record v {
  looks = v.looks ++ (word, before) ∷ [];
  held = slice_set v.held leaf (Some (taken_out (before + lane + 1) m));
  seen = log;
  met = [];
  words = slice_set v.words word (before + lane + 1);
}

-- The leaf was free and not newer than the version searched. The view has now seen the whole history, and the content is the leaf's part of
-- the map after it: by each note that isn't older than the leaf, and so by one of the version searched.
pub record Took (k : Shape) (leaf seen searched lane : ℕ) (v w : View) (held : Held) : Type 0 where
  pub free : seen % 256 ≡ 0
  pub known : seen / 256 ≤ searched
  pub this : (held.leaf ≡ leaf) × (held.date ≡ seen / 256)
  pub sees : Sees v w.seen
  pub after : w ≡ held_out (leaf_word k leaf) leaf seen lane (shown held.content) w.seen v
  pub has : held_at w leaf ≡ Some (taken_out (seen + lane + 1) (shown held.content))
  pub is_held : IsHeld k w held
  pub is_part : IsPart v leaf (seen / 256) w.seen (shown held.content)
  pub one_span : HasOneSpan v leaf (seen / 256)
  pub few : length (shown held.content) ≤ k.hard
  pub salt : held.content.salt ≡ k.salt
