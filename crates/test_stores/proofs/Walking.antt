-- How a put and a get, and a walk, go on in the histories.
use Rattle.std.proofs.Common.{◌≡◌, ◌≢◌, ℕ, List, [], ◌∷◌, ◌++◌, Bool, true, false, IsTrue, refl, sym, ap, ◌∙◌, subst, append_assoc, Result, Ok, Err, OnErr}
use Rattle.std.proofs.lemmas.List.{append-nil}
use Rattle.std.proofs.lemmas.List.Concat.{flat_map-append}
use Rattle.std.specs.declared.cmp.Ordering.{Ordering}
use Rattle.std.specs.declared.cmp.Ordering.TheVariants.{Less, Equal, Greater}
use Rattle.std.specs.Ordering.{is_lt}
use Rattle.key_bytes.specs.Bound.{bound_cmp}
use Rattle.key_bytes.specs.declared.bound.Bound.{Bound}
use Rattle.key_bytes.proofs.Orders.{bound_same, bound_cmp-itself, bound_trans}
use Rattle.map_model.specs.Maps.{Pairs, IsMap, find, with, between}
use Rattle.map_model.specs.Calls as calls
use Rattle.map_model.specs.Calls.{answer_of, map_after}
use Rattle.map_model.specs.History.{Entry, after, IsLegal, IsLegalFrom, entry_of}
use Rattle.map_model.specs.Ordered.{Follows, Enters, EntersLast, Stays, got}
use Rattle.map_model.proofs.Finds.{find_with_same}
use Rattle.map_model.proofs.Histories.{after-push, legal-at, legal-parts, ascending_history}
use Rattle.map_model.proofs.Parts.{between_none, between_split}
use Rattle.map_model.proofs.Growing.{follows_then, follows_weaker, follows_itself, grows_more, stays}
use Rattle.map_model.specs.Parts.{pairs_in, pairs_of}
use Rattle.test_stores.specs.Walks.{Goes, Tile, Walks}

-- the reply of a get tells what was found
pub got_value : (found : Bool) (out value : List ℕ) → got found out ≡ calls.Value value → IsTrue found × (out ≡ value)
got_value true out value same = (refl, cc same)
got_value false out value same = absurd (cc same)

-- right behind a put of a lane that is alone, a get finds the value
pub gets_put : (a b c : List Entry → Type 0) (lane : ℕ) (sole : Bool) (key value out : List ℕ) (found : Bool) (reply : calls.Reply)
    → Follows a b (Enters lane sole (calls.Put key value) reply) → Follows b c (EntersLast lane sole (calls.Get key) (got found out)) → IsTrue sole → (seen : List Entry) → a seen → IsTrue found × (out ≡ value)
gets_put a b c lane sole key value out found reply first second alone seen stood =
    let p = first seen stood in
    let q = second p.0 p.1 in
    let put = entry_of lane seen (calls.Put key value) reply in
    let get = entry_of lane p.0 (calls.Get key) (got found out) in
    let legal : IsLegal (p.0 ++ get ∷ []) = subst IsLegal (q.2.enters.alone alone) q.2.enters.legal in
    let told : got found out ≡ answer_of (after p.0) (calls.Get key) = legal-at p.0 get [] legal in
    let map : after p.0 ≡ with (after seen) key value = ap after (p.2.alone alone) ∙ after-push seen put in
    got_value found out value (told ∙ (ap (λ m. calls.found (find m key)) map ∙ ap calls.found (find_with_same (after seen) key value)))

tile_push : (from to : Bound) (entries : List Entry) (at upto : Bound) (e : Entry) → Tile from to entries at → e.call ≡ calls.Part at upto → bound_cmp at upto ≡ Less → bound_cmp upto to ≢ Greater → Tile from to (entries ++ e ∷ []) upto
tile_push from to [] at upto e tile call less within = (upto, call ∙ ap (λ b. calls.Part b upto) tile, ap (λ b. bound_cmp b upto) (sym tile) ∙ less, within, refl)
tile_push from to (f ∷ entries) at upto e tile call less within = (tile.0, tile.1, tile.2, tile.3, tile_push tile.0 to entries at upto e tile.4 call less within)

-- before the first part
pub walks_none : (a : List Entry → Type 0) (lane : ℕ) (sole : Bool) (from to : Bound) (before : Pairs (List ℕ)) → ((old : List Entry) → a old → IsLegal old) → Follows a a (Walks lane sole from to before before from)
walks_none a lane sole from to before legal = follows_itself a _ (λ old history. ([], stays lane sole old (legal old history), refl, sym (append-nil before)))

-- one part more
pub walks_more : (a b c : List Entry → Type 0) (lane : ℕ) (sole : Bool) (from to at upto : Bound) (before now next page : Pairs (List ℕ)) → Follows a b (Walks lane sole from to before now at) → Follows b c (EntersLast lane sole (calls.Part at upto) (calls.Pairs page))
    → bound_cmp at upto ≡ Less → bound_cmp upto to ≢ Greater → next ≡ now ++ page → Follows a c (Walks lane sole from to before next upto)
walks_more a b c lane sole from to at upto before now next page first second less within added =
    follows_then a b c _ _ _ (λ old mid new p q.
    let e = entry_of lane mid (calls.Part at upto) (calls.Pairs page) in
    let pairs : pairs_of (p.0 ++ e ∷ []) ≡ pairs_of p.0 ++ page = flat_map-append (λ (f : Entry). pairs_in f.reply) p.0 (e ∷ []) ∙ ap (λ ys. pairs_of p.0 ++ ys) (append-nil page) in (
      p.0 ++ e ∷ [],
      grows_more lane sole p.0 (e ∷ []) old mid new p.1 q.enters,
      tile_push from to p.0 at upto e p.2 refl less within,
      added ∙ (ap (λ w. w ++ page) p.3 ∙ (append_assoc before (pairs_of p.0) page ∙ ap (λ w. before ++ w) (sym pairs))),
    )) first second

equal_from : (o : Ordering) → is_lt o ≡ false → o ≢ Greater → o ≡ Equal
equal_from Less not_less not_greater = absurd cc
equal_from Equal not_less not_greater = refl
equal_from Greater not_less not_greater = absurd (not_greater refl)

-- an end that isn't below the last one, and not above it, is the last one
pub at_last : (a to : Bound) → is_lt (bound_cmp a to) ≡ false → bound_cmp a to ≢ Greater → a ≡ to
at_last a to not_less within = bound_same a to (equal_from _ not_less within)

pub on_err : {T E : Type 0} (r : Result T E) (P : Type 0) → P → OnErr r P
on_err (Ok x) P p = tt
on_err (Err e) P p = p

-- what a walk that was refused leaves in the history
pub walk_refused : (a b c : List Entry → Type 0) (lane : ℕ) (sole : Bool) (from to at : Bound) (before now : Pairs (List ℕ)) → Follows a b (Walks lane sole from to before now at) → Follows b c (Stays lane sole) → Follows a c (Goes lane sole)
walk_refused a b c lane sole from to at before now first second =
    follows_then a b c _ _ _ (λ old mid new p q. (p.0 ++ [], grows_more lane sole p.0 [] old mid new p.1 q)) first second

pub walk_cut : (a b : List Entry → Type 0) (lane : ℕ) (sole : Bool) (from to at : Bound) (before now : Pairs (List ℕ)) → Follows a b (Walks lane sole from to before now at) → Follows a b (Goes lane sole)
walk_cut a b lane sole from to at before now first = follows_weaker a b _ _ (λ old new p. (p.0, p.1)) first

pub walks_upto : (a b : List Entry → Type 0) (lane : ℕ) (sole : Bool) (from to at last : Bound) (before now : Pairs (List ℕ)) → at ≡ last → Follows a b (Walks lane sole from to before now at) → Follows a b (Walks lane sole from to before now last)
walks_upto a b lane sole from to at last before now same follows = subst (λ e. Follows a b (Walks lane sole from to before now e)) same follows

-- a walk goes upwards
not_above : (a b c : Bound) → bound_cmp a b ≡ Less → bound_cmp b c ≢ Greater → bound_cmp a c ≢ Greater
not_above a b c less within = elim (bound_cmp b c) as (λ o. bound_cmp b c ≡ o → bound_cmp a c ≢ Greater) [
  | Less ↦ λ e. λ g. absurd (cc (bound_trans a b c less e, g))
  | Equal ↦ λ e. λ g. absurd (cc (ap (bound_cmp a) (sym (bound_same b c e)) ∙ less, g))
  | Greater ↦ λ e. absurd (within e)
] refl

tile_up : (from to last : Bound) (entries : List Entry) → Tile from to entries last → bound_cmp from last ≢ Greater
tile_up from to last [] tile = λ g. absurd (cc (ap (bound_cmp from) tile ∙ bound_cmp-itself from, g))
tile_up from to last (e ∷ entries) tile = not_above from tile.0 last tile.2 (tile_up tile.0 to last entries tile.4)

-- the pairs of parts that tile a range, with no call between them, are those of the range
tile_whole : (m : Pairs (List ℕ)) → IsMap m → (from to last : Bound) (entries : List Entry) → Tile from to entries last → IsLegalFrom m entries → pairs_of entries ≡ between m from last
tile_whole m up from to last [] tile legal = sym (between_none m from last (λ e. absurd (cc (ap (bound_cmp from) tile ∙ bound_cmp-itself from, e))))
tile_whole m up from to last (e ∷ entries) tile legal =
    let upto = tile.0 in
    let told : e.reply ≡ calls.Pairs (between m from upto) = legal.0 ∙ ap (answer_of m) tile.1 in
    let same : map_after m e.call ≡ m = ap (map_after m) tile.1 in
    let rest : pairs_of entries ≡ between m upto last = tile_whole m up upto to last entries tile.4 (subst (λ n. IsLegalFrom n entries) same legal.1) in
    ap (λ r. pairs_in r ++ pairs_of entries) told
    ∙ (ap (λ (ys : Pairs (List ℕ)). between m from upto ++ ys) rest
    ∙ between_split m up from upto last (λ g. absurd (cc (tile.2, g))) (tile_up upto to last entries tile.4))

-- a walk of a lane that is alone
pub walks_whole : (a b : List Entry → Type 0) (lane : ℕ) (sole : Bool) (from to last : Bound) (before now : Pairs (List ℕ)) → Follows a b (Walks lane sole from to before now last) → IsTrue sole → (seen : List Entry) → a seen → now ≡ before ++ between (after seen) from last
walks_whole a b lane sole from to last before now follows alone seen stood =
    let p = follows seen stood in
    let entries = p.2.0 in
    let legal = (legal-parts [] seen entries (subst IsLegal (p.2.1.alone alone) p.2.1.legal)).1 in
    p.2.3 ∙ ap (λ ys. before ++ ys) (tile_whole (after seen) (ascending_history seen) from to last entries p.2.2 legal)
