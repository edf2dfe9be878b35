-- What is known of each prefix may be written in another way.
use Rattle.std.proofs.Common.{◌≡◌, ℕ, List, [], ◌∷◌, Option, sym, ◌∙◌, refl}
use Rattle.std.specs.List.{AllByRecursion}
use Rattle.anchor_rules.specs.Items.{Item}
use Rattle.row_words.specs.declared.shape.Shape.{Shape}
use Rattle.meta_trie.specs.Trie.{Entry, Stands, Holds}

stands_same : (k : Shape) (ws : List ℕ) (known other : List ℕ → Option Item) (b : ℕ) (es : List Entry) → ((p : List ℕ) → known p ≡ other p) → AllByRecursion (Stands k ws known b) es → AllByRecursion (Stands k ws other b) es
stands_same k ws known other b [] same s = tt
stands_same k ws known other b (e ∷ es) same s = (
  record {
    in_range = s.0.in_range;
    here = s.0.here;
    hash = s.0.hash;
    len = s.0.len;
    live = s.0.live;
    named = s.0.named;
    said = (s.0.said.0, sym (same e.name) ∙ s.0.said.1, s.0.said.2);
  },
  stands_same k ws known other b es same s.1,
)

pub holds_same : (k : Shape) (ws : List ℕ) (known other : List ℕ → Option Item) → ((p : List ℕ) → known p ≡ other p) → Holds k ws known → Holds k ws other
holds_same k ws known other same h = record {
  ranges = h.ranges;
  buckets = h.buckets;
  chained = h.chained;
  standing = λ b l. stands_same k ws known other b (h.buckets b) same (h.standing b l);
  apart = h.apart;
  complete = λ name it e. h.complete name it (same name ∙ e);
  owner = h.owner;
  owned = h.owned;
  mine = h.mine;
  free = h.free;
  spare = h.spare;
  unowned = h.unowned;
  unlike = h.unlike;
  whole = h.whole;
  counted = h.counted;
}

pub holds_same-owner : (k : Shape) (ws : List ℕ) (known other : List ℕ → Option Item) (same : (p : List ℕ) → known p ≡ other p) (h : Holds k ws known) (i : ℕ) → (holds_same k ws known other same h).owner i ≡ h.owner i
unfolding holds_same
holds_same-owner k ws known other same h i = refl
