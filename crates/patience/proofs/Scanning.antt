-- How a scan goes on in the histories, and which pairs were handed on.
use Rattle.std.proofs.Common.{◌≡◌, ◌≢◌, ◌⊎◌, inl, inr, ℕ, List, [], ◌∷◌, ◌++◌, Bool, true, false, IsTrue, refl, sym, ap, ◌∙◌, subst, ◌+◌, ◌<◌, length, take, drop, get_or, Result, Ok, Err, OnErr}
use mathlib.Core.Bool.{false≢true}
use Rattle.std.proofs.lemmas.List.{append-nil, take_more, take-append-drop}
use Rattle.std.proofs.lemmas.List.Concat.{flat_map-append}
use Rattle.std.specs.Ordering.{is_lt}
use Rattle.std.specs.declared.cmp.Ordering.{Ordering}
use Rattle.std.specs.declared.cmp.Ordering.TheVariants.{Less, Equal, Greater}
use Rattle.key_bytes.specs.Bound.{bound_cmp}
use Rattle.key_bytes.specs.declared.bound.Bound.{Bound}
use Rattle.key_bytes.proofs.Orders.{bound_same, bound_cmp-itself, bound_cmp-back, bound_trans}
use Rattle.map_model.specs.Maps.{Pairs, IsMap, between}
use Rattle.map_model.specs.Calls as calls
use Rattle.map_model.specs.Calls.{answer_of, map_after}
use Rattle.map_model.specs.History.{Entry, after, IsLegal, IsLegalFrom, entry_of}
use Rattle.map_model.specs.Ordered.{Follows, Grows, EntersLast, Stays}
use Rattle.map_model.specs.Parts.{pairs_in, pairs_of}
use Rattle.map_model.proofs.Histories.{legal-parts, ascending_history}
use Rattle.map_model.proofs.Parts.{between_none, between_split}
use Rattle.map_model.proofs.Growing.{follows_then, follows_weaker, follows_itself, grows_more, stays}
use Rattle.patience.specs.Scans.{Tile, HandsOn, Hands, Scans, Breaks}

-- one part more
tile_push : (from to : Bound) (entries : List Entry) (at upto : Bound) (e : Entry) → Tile from to entries at → e.call ≡ calls.Part at upto → bound_cmp at upto ≡ Less → bound_cmp upto to ≢ Greater → Tile from to (entries ++ e ∷ []) upto
tile_push from to [] at upto e tile call less within = (upto, call ∙ ap (λ b. calls.Part b upto) tile, ap (λ b. bound_cmp b upto) (sym tile) ∙ less, within, refl)
tile_push from to (f ∷ entries) at upto e tile call less within = (tile.0, tile.1, tile.2, tile.3, tile_push tile.0 to entries at upto e tile.4 call less within)

-- parts go upwards
not_above : (a b c : Bound) → bound_cmp a b ≡ Less → bound_cmp b c ≢ Greater → bound_cmp a c ≢ Greater
not_above a b c less within = elim (bound_cmp b c) as (λ o. bound_cmp b c ≡ o → bound_cmp a c ≢ Greater) [
  | Less ↦ λ e. λ g. absurd (cc (bound_trans a b c less e, g))
  | Equal ↦ λ e. λ g. absurd (cc (ap (bound_cmp a) (sym (bound_same b c e)) ∙ less, g))
  | Greater ↦ λ e. absurd (within e)
] refl

tile_up : (from to last : Bound) (entries : List Entry) → Tile from to entries last → bound_cmp from last ≢ Greater
tile_up from to last [] tile = λ g. absurd (cc (ap (bound_cmp from) tile ∙ bound_cmp-itself from, g))
tile_up from to last (e ∷ entries) tile = not_above from tile.0 last tile.2 (tile_up tile.0 to last entries tile.4)

-- and no part ends above the range
tile_within : (from to last : Bound) (entries : List Entry) → bound_cmp from to ≢ Greater → Tile from to entries last → bound_cmp last to ≢ Greater
tile_within from to last [] up tile = subst (λ b. bound_cmp b to ≢ Greater) (sym tile) up
tile_within from to last (e ∷ entries) up tile = tile_within tile.0 to last entries tile.3 tile.4

-- the pairs of parts that tile a range, with no call between them, are those of the range
tile_whole : (m : Pairs (List ℕ)) → IsMap m → (from to last : Bound) (entries : List Entry) → Tile from to entries last → IsLegalFrom m entries → pairs_of entries ≡ between m from last
tile_whole m up from to last [] tile legal = sym (between_none m from last (λ e. absurd (cc (ap (bound_cmp from) tile ∙ bound_cmp-itself from, e))))
tile_whole m up from to last (e ∷ entries) tile legal =
    let upto = tile.0 in
    let told : e.reply ≡ calls.Pairs (between m from upto) = legal.0 ∙ ap (answer_of m) tile.1 in
    let same : map_after m e.call ≡ m = ap (map_after m) tile.1 in
    let rest : pairs_of entries ≡ between m upto last = tile_whole m up upto to last entries tile.4 (subst (λ n. IsLegalFrom n entries) same legal.1) in
    ap (λ r. pairs_in r ++ pairs_of entries) told
    ∙ (ap (λ (ys : Pairs (List ℕ)). between m from upto ++ ys) rest
    ∙ between_split m up from upto last (λ g. absurd (cc (tile.2, g))) (tile_up upto to last entries tile.4))

pub on_err : {T E : Type 0} (r : Result T E) (P : Type 0) → P → OnErr r P
on_err (Ok x) P p = tt
on_err (Err e) P p = p

-- a scan that was over before its first part, or that came to its end
none_to : (m : Pairs (List ℕ)) (from upto : Bound) → upto ≡ from → between m from upto ≡ []
none_to m from upto same = between_none m from upto (λ e. absurd (cc (ap (bound_cmp from) same ∙ bound_cmp-itself from, e)))

not_less : (o : Ordering) → is_lt o ≡ false → o ≢ Less
not_less Less is = absurd cc
not_less Equal is = λ e. absurd cc
not_less Greater is = λ e. absurd cc

equal_from : (o : Ordering) → is_lt o ≡ false → o ≢ Greater → o ≡ Equal
equal_from Less not_less not_greater = absurd cc
equal_from Equal not_less not_greater = refl
equal_from Greater not_less not_greater = absurd (not_greater refl)

same_range : (m : Pairs (List ℕ)) (from to upto : Bound) (entries : List Entry) → Tile from to entries upto → is_lt (bound_cmp upto to) ≡ false → between m from upto ≡ between m from to
same_range m from to upto [] tile reached = none_to m from upto tile ∙ sym (between_none m from to (not_less _ (ap (λ b. is_lt (bound_cmp b to)) (sym tile) ∙ reached)))
same_range m from to upto (e ∷ entries) tile reached = ap (between m from) (bound_same upto to (equal_from _ reached (tile_within tile.0 to upto entries tile.3 tile.4)))

module _ {F : Type 0} (called : F → List ℕ → List ℕ → Bool → F → Type 0) where
  -- all of some pairs, and then of more
  pub hands_more : (f mid last : F) (front back : Pairs (List ℕ)) (whole : Bool) → HandsOn called f front true mid → HandsOn called mid back whole last → HandsOn called f (front ++ back) whole last
  hands_more f mid last [] back whole first second = subst (λ g. HandsOn called g back whole last) first.1 second
  hands_more f mid last (pair ∷ front) back whole first second = (
    first.0,
    elim first.1 [
      | inl on ↦ inl (on.0, hands_more first.0 mid last front back whole on.1 second)
      | inr off ↦ absurd (false≢true (sym off.1))
    ],
  )

  -- what comes behind a pair at which it answered false wasn't handed on
  pub hands_longer : (f last : F) (front back : Pairs (List ℕ)) → HandsOn called f front false last → HandsOn called f (front ++ back) false last
  hands_longer f last [] back first = absurd (false≢true first.0)
  hands_longer f last (pair ∷ front) back first = (
    first.0,
    elim first.1 [
      | inl on ↦ inl (on.0, hands_longer first.0 last front back on.1)
      | inr off ↦ inr off
    ],
  )

  -- one call
  pub hands_one : (f last : F) (pair : List ℕ × List ℕ) → called f pair.0 pair.1 true last → HandsOn called f (pair ∷ []) true last
  hands_one f last pair call = (last, inl (call, (refl, refl)))

  pub hands_stop : (f last : F) (pair : List ℕ × List ℕ) → called f pair.0 pair.1 false last → HandsOn called f (pair ∷ []) false last
  hands_stop f last pair call = (last, inr (call, refl, refl))

  -- a call at the next pair of a page
  pub hands_next : (f mid last : F) (pairs : Pairs (List ℕ)) (i : ℕ) (d : List ℕ × List ℕ) → i < length pairs → HandsOn called f (take i pairs) true mid → called mid (get_or pairs i d).0 (get_or pairs i d).1 true last → HandsOn called f (take (i + 1) pairs) true last
  hands_next f mid last pairs i d within handed call =
      subst (λ ys. HandsOn called f ys true last) (sym (take_more pairs i d within)) (hands_more f mid last (take i pairs) (get_or pairs i d ∷ []) true handed (hands_one mid last (get_or pairs i d) call))

  pub hands_last : (f mid last : F) (pairs : Pairs (List ℕ)) (i : ℕ) (d : List ℕ × List ℕ) → i < length pairs → HandsOn called f (take i pairs) true mid → called mid (get_or pairs i d).0 (get_or pairs i d).1 false last → HandsOn called f pairs false last
  hands_last f mid last pairs i d within handed call =
      let next : HandsOn called f (take (i + 1) pairs) false last = subst (λ ys. HandsOn called f ys false last) (sym (take_more pairs i d within)) (hands_more f mid last (take i pairs) (get_or pairs i d ∷ []) false handed (hands_stop mid last (get_or pairs i d) call)) in
      subst (λ ys. HandsOn called f ys false last) (take-append-drop (i + 1) pairs) (hands_longer f last (take (i + 1) pairs) (drop (i + 1) pairs) next)

  -- the parts go to the end of the range, or what was handed on was cut off
  reached : (m : Pairs (List ℕ)) → IsMap m → (from to upto : Bound) (entries : List Entry) (whole : Bool) (last f : F) → Tile from to entries upto → (whole ≡ true → is_lt (bound_cmp upto to) ≡ false) → HandsOn called f (between m from upto) whole last → HandsOn called f (between m from to) whole last
  reached m up from to upto entries true last f tile reaches handed = subst (λ ys. HandsOn called f ys true last) (same_range m from to upto entries tile (reaches refl)) handed
  reached m up from to upto [] false last f tile reaches handed = absurd (false≢true (subst (λ ys. HandsOn called f ys false last) (none_to m from upto tile) handed).0)
  reached m up from to upto (e ∷ entries) false last f tile reaches handed =
      subst (λ ys. HandsOn called f ys false last) (between_split m up from upto to (tile_up from to upto (e ∷ entries) tile) (tile_within tile.0 to upto entries tile.3 tile.4)) (hands_longer f last (between m from upto) (between m upto to) handed)

  module _ (lane : ℕ) (sole : Bool) (from to : Bound) where
    -- before the first part
    pub scan_none : (a : List Entry → Type 0) (f : F) → ((old : List Entry) → a old → IsLegal old) → Follows a a (Hands called lane sole from to from f true f)
    scan_none a f legal = follows_itself a _ (λ old history. ([], stays lane sole old (legal old history), refl, (refl, refl)))

    -- one part more
    pub scan_more : (a b c : List Entry → Type 0) (at upto : Bound) (page : Pairs (List ℕ)) (f mid last : F) (whole : Bool) → Follows a b (Hands called lane sole from to at f true mid) → Follows b c (EntersLast lane sole (calls.Part at upto) (calls.Pairs page))
        → bound_cmp at upto ≡ Less → bound_cmp upto to ≢ Greater → HandsOn called mid page whole last → Follows a c (Hands called lane sole from to upto f whole last)
    scan_more a b c at upto page f mid last whole first second less within handed =
        follows_then a b c _ _ _ (λ old now new p q.
        let e = entry_of lane now (calls.Part at upto) (calls.Pairs page) in
        let pairs : pairs_of (p.0 ++ e ∷ []) ≡ pairs_of p.0 ++ page = flat_map-append (λ (f : Entry). pairs_in f.reply) p.0 (e ∷ []) ∙ ap (λ ys. pairs_of p.0 ++ ys) (append-nil page) in (
          p.0 ++ e ∷ [],
          grows_more lane sole p.0 (e ∷ []) old now new p.1 q.enters,
          tile_push from to p.0 at upto e p.2 refl less within,
          subst (λ ys. HandsOn called f ys whole last) (sym pairs) (hands_more f mid last (pairs_of p.0) page whole p.3 handed),
        )) first second

    pub scan_done : (a b : List Entry → Type 0) (upto : Bound) (f last : F) (whole : Bool) → (whole ≡ true → is_lt (bound_cmp upto to) ≡ false) → Follows a b (Hands called lane sole from to upto f whole last) → Follows a b (Scans called lane sole from to f whole)
    scan_done a b upto f last whole reaches = follows_weaker a b _ _ (λ old new p. (upto, last, reaches, p))

    -- a part more that was refused
    pub scan_refused : (a b c : List Entry → Type 0) (at : Bound) (f mid : F) → Follows a b (Hands called lane sole from to at f true mid) → Follows b c (Stays lane sole) → Follows a c (Breaks called lane sole from to f)
    scan_refused a b c at f mid first second =
        follows_then a b c _ _ _ (λ old now new p q. (at, mid, (p.0, subst (λ es. Grows lane sole es old new) (append-nil p.0) (grows_more lane sole p.0 [] old now new p.1 q), p.2, p.3))) first second

    pub scan_cut : (a : List Entry → Type 0) (f : F) → ((old : List Entry) → a old → IsLegal old) → Follows a a (Breaks called lane sole from to f)
    scan_cut a f legal = follows_weaker a a _ _ (λ old new p. (from, f, p)) (scan_none a f legal)

    -- of a lane that is alone the pairs are those of the range
    pub scan_whole : (a b : List Entry → Type 0) (f : F) (whole : Bool) → Follows a b (Scans called lane sole from to f whole) → IsTrue sole → (seen : List Entry) → a seen → (last : F) × HandsOn called f (between (after seen) from to) whole last
    scan_whole a b f whole follows alone seen stood =
        let p = follows seen stood in
        let upto = p.2.0 in
        let last = p.2.1 in
        let entries = p.2.3.0 in
        let tile = p.2.3.2 in
        let legal = (legal-parts [] seen entries (subst IsLegal (p.2.3.1.alone alone) p.2.3.1.legal)).1 in
        let m = after seen in
        let up = ascending_history seen in
        let pairs : pairs_of entries ≡ between m from upto = tile_whole m up from to upto entries tile legal in
        (last, reached m up from to upto entries whole last f tile p.2.2 (subst (λ ys. HandsOn called f ys whole last) pairs p.2.3.3))
