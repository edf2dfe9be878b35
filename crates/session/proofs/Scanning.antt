-- A scan goes on by a part, and ends.
use Rattle.std.proofs.Common.{◌≡◌, ◌≢◌, ◌≤◌, ◌<◌, ℕ, ◌+◌, ◌-◌, suc, zero, min, length, take, List, [], ◌∷◌, ◌++◌, Bool, true, false, not, ◌||◌, ◌==◌, refl, sym, ap, ◌∙◌, subst, Option, Some, None, Result, Ok, Err, arith, length-append, length-take}
use Rattle.std.specs.Ordering.{is_lt}
use Rattle.std.proofs.lemmas.List.{append-nil}
use Rattle.std.proofs.lemmas.List.Concat.{flat_map-append}
use Rattle.std.specs.declared.cmp.Ordering.TheVariants.{Less, Greater}
use Rattle.counts.specs.Counts.{RoseBy}
use Rattle.key_bytes.specs.Bound.{bound_cmp}
use Rattle.key_bytes.specs.declared.bound.Bound.{Bound}
use Rattle.map_model.specs.Maps.{Pairs}
use Rattle.map_model.specs.Calls as calls
use Rattle.map_model.specs.History.{Entry, IsLegal, entry_of}
use Rattle.map_model.specs.Ordered.{Follows, Grows, EntersLast, Stays}
use Rattle.map_model.specs.Parts.{pairs_in, pairs_of}
use Rattle.map_model.specs.Refusals.{NotFull}
use Rattle.map_model.specs.declared.refusal.Refusal.{Refusal}
use Rattle.map_model.specs.declared.refusal.Refusal.TheVariants.{Again, Full, NoMemory}
use Rattle.map_model.proofs.Growing.{follows_then, follows_weaker, follows_itself, grows_more, stays}
use Rattle.outside.specs.Writing.{Wrote}
use Rattle.line_protocol.specs.declared.request.Request.TheVariants as asks
use Rattle.line_protocol.specs.Texts.{pair_line}
use Rattle.patience.specs.Patience.{MayTell, IsLast, owed_by}
use Rattle.session.specs.Replies.{pair_lines, end_line, refusal_line}
use Rattle.session.specs.Scans.{AreParts, is_done, EndsScan, MayBreak}
use Rattle.session.specs.Transcripts.{Transcribes}
use Rattle.session.specs.Turns.{IsTorn, WritesPieces}
use Rattle.session.specs.Writes.{WroteSome, Gained}
use Rattle.session.proofs.Gaining.{some_behind, some_more}
use Rattle.session.proofs.Joining.{transcribes_one}
use Rattle.session.proofs.Turning.{writes_one}

-- Parts up to an end are new in the history, `says` holds of the lines of their first pairs, and so many are left.
pub record Scans (lane : ℕ) (sole : Bool) (from to : Bound) (most : ℕ) (at : Bound) (left : ℕ) (says : List ℕ → Type 0) (old new : List Entry) : Type 0 where
  pub entries : List Entry
  pub grows : Grows lane sole entries old new
  pub parts : AreParts from to most entries at
  pub left_is : left ≡ most - length (pairs_of entries)
  pub said : says (pair_lines (take most (pairs_of entries)))

pub take_none : {X : Type 0} (n : ℕ) → take {A = X} n [] ≡ []
take_none zero = refl
take_none (suc n) = refl

pub wanted_from : (more : Bool) (left : ℕ) → (not more || (left == 0)) ≡ false → 0 < left
wanted_from false left none = absurd cc
wanted_from true zero none = absurd cc
wanted_from true (suc left) none = omega arith

-- the first of two lists
pub take_over : {X : Type 0} (n : ℕ) (xs ys : List X) → take n (xs ++ ys) ≡ take n xs ++ take (n - length xs) ys
take_over n [] ys = ap (λ k. take k ys) (let e : n ≡ n - 0 = omega arith in e) ∙ ap (λ w. w ++ take (n - 0) ys) (sym (take_none n))
take_over zero (x ∷ xs) ys = ap (λ k. take k ys) (let e : 0 ≡ 0 - suc (length xs) = omega arith in e)
take_over (suc n) (x ∷ xs) ys = ap (λ w. x ∷ w) (take_over n xs ys ∙ ap (λ k. take n xs ++ take k ys) (let e : n - length xs ≡ suc n - suc (length xs) = omega arith in e))

-- one part more
parts_push : (from to : Bound) (most : ℕ) (entries : List Entry) (at upto : Bound) (e : Entry) → AreParts from to most entries at → e.call ≡ calls.Part at upto → bound_cmp at upto ≡ Less → bound_cmp upto to ≢ Greater → 0 < most - length (pairs_of entries)
    → AreParts from to most (entries ++ e ∷ []) upto
parts_push from to most [] at upto e parts call less within wanted = (upto, call ∙ ap (λ b. calls.Part b upto) parts, ap (λ b. bound_cmp b upto) (sym parts) ∙ less, within, omega arith, refl)
parts_push from to most (f ∷ entries) at upto e parts call less within wanted =
    (parts.0, parts.1, parts.2, parts.3, parts.4, parts_push parts.0 to (most - length (pairs_in f.reply)) entries at upto e parts.5 call less within (omega (arith, wanted, length-append (pairs_in f.reply) (pairs_of entries))))

-- a refusal of a part may end a scan
pub may_break : (limit : Option ℕ) (sole : Bool) (refusal : Refusal) → NotFull {T = Bound} (Err refusal) → MayTell limit sole refusal → MayBreak limit sole refusal
may_break limit sole (Again cause) none may = may
may_break limit sole (Full cause) none may = absurd none
may_break limit sole NoMemory none may = tt

-- some end fits, whatever was asked for so far
some_end : (limit : Option ℕ) (sole over : Bool) (count : ℕ) → (line : List ℕ) × (refused : Option Refusal) × EndsScan limit sole over count line refused × (owed_by limit refused ≡ 0) × ((last : Option Refusal) → IsLast refused last)
some_end limit sole true count = (end_line count, None, (refl, refl), refl, λ last. tt)
some_end limit sole false count = (refusal_line NoMemory, Some NoMemory, (NoMemory, tt, refl, refl), refl, λ last. tt)

module _ (lane : ℕ) (sole : Bool) (from to : Bound) (most : ℕ) where
  -- before the first part
  pub scans_none : (a : List Entry → Type 0) (says : List ℕ → Type 0) → ((old : List Entry) → a old → IsLegal old) → says [] → Follows a a (Scans lane sole from to most from most says)
  scans_none a says legal say = follows_itself a _ (λ old history. record {
    entries = [];
    grows = stays lane sole old (legal old history);
    parts = refl;
    left_is = omega arith;
    said = subst (λ w. says (pair_lines w)) (sym (take_none most)) say;
  })

  -- a part more
  pub scans_more : (a b c : List Entry → Type 0) (at upto : Bound) (left next : ℕ) (page : Pairs (List ℕ)) (says more : List ℕ → Type 0) → ((xs : List ℕ) → says xs → more (xs ++ pair_lines (take left page)))
      → bound_cmp at upto ≡ Less → bound_cmp upto to ≢ Greater → 0 < left → next + min left (length page) ≡ left
      → Follows a b (Scans lane sole from to most at left says) → Follows b c (EntersLast lane sole (calls.Part at upto) (calls.Pairs page)) → Follows a c (Scans lane sole from to most upto next more)
  scans_more a b c at upto left next page says more say less within wanted next_is = follows_then a b c _ _ _ (λ old mid new p q.
      let e = entry_of lane mid (calls.Part at upto) (calls.Pairs page) in
      let pairs : pairs_of (p.entries ++ e ∷ []) ≡ pairs_of p.entries ++ page = flat_map-append (λ (f : Entry). pairs_in f.reply) p.entries (e ∷ []) ∙ ap (λ w. pairs_of p.entries ++ w) (append-nil page) in
      let lines : pair_lines (take most (pairs_of (p.entries ++ e ∷ []))) ≡ pair_lines (take most (pairs_of p.entries)) ++ pair_lines (take left page) =
      ap (λ w. pair_lines (take most w)) pairs ∙ (ap pair_lines (take_over most (pairs_of p.entries) page) ∙ (flat_map-append (λ (r : List ℕ × List ℕ). pair_line r.0 r.1) (take most (pairs_of p.entries)) (take (most - length (pairs_of p.entries)) page) ∙ ap (λ n. pair_lines (take most (pairs_of p.entries)) ++ pair_lines (take n page)) (sym p.left_is))) in record {
        entries = p.entries ++ e ∷ [];
        grows = grows_more lane sole p.entries (e ∷ []) old mid new p.grows q.enters;
        parts = parts_push from to most p.entries at upto e p.parts refl less within (omega (arith, wanted, p.left_is));
        left_is = omega (arith, next_is, p.left_is, ap length pairs, length-append (pairs_of p.entries) page);
        said = subst more (sym lines) (say _ p.said);
      })

  -- a part that was refused
  pub scans_stay : (a b c : List Entry → Type 0) (at : Bound) (left : ℕ) (says : List ℕ → Type 0) → Follows a b (Scans lane sole from to most at left says) → Follows b c (Stays lane sole) → Follows a c (Scans lane sole from to most at left says)
  scans_stay a b c at left says = follows_then a b c _ _ _ (λ old mid new p q. record {
    entries = p.entries;
    grows = subst (λ E. Grows lane sole E old new) (append-nil p.entries) (grows_more lane sole p.entries [] old mid new p.grows q);
    parts = p.parts;
    left_is = p.left_is;
    said = p.said;
  })

  module _ (limit : Option ℕ) (fits : List Entry → Type 0) (i j : ℕ) (u v : Option Refusal) where
    -- the line of its end
    pub scan_ends : {T E : Type 0} (a b : List Entry → Type 0) (at : Bound) (left : ℕ) (says : List ℕ → Type 0) (r : Result T E) (w z : Option (List ℕ)) (line : List ℕ) (refused : Option Refusal) → ((xs : List ℕ) → says xs → Gained r w z (xs ++ line)) → RoseBy (owed_by limit refused) i j → IsLast refused v
        → EndsScan limit sole (not (is_lt (bound_cmp at to)) || (left == 0)) (most - left) line refused
        → Follows a b (Scans lane sole from to most at left says) → Follows a b (Transcribes limit lane sole fits i j u v (λ all. all ≡ Ok (Some (asks.Scan from to most)) ∷ []) (WritesPieces r w z))
    scan_ends a b at left says r w z line refused say rose last end = follows_weaker a b _ _ (λ old new p.
        let pairs = pairs_of p.entries in
        let count : most - left ≡ length (take most pairs) = omega (arith, p.left_is, length-take most pairs) in
        transcribes_one limit lane sole fits i j u v (λ all. all ≡ Ok (Some (asks.Scan from to most)) ∷ []) (WritesPieces r w z) old new (record { asked = Ok (Some (asks.Scan from to most)); entries = p.entries; text = pair_lines (take most pairs) ++ line; refused = refused })
        refl (writes_one r w z _ (say _ p.said)) p.grows
        (record { last = at; parts = p.parts; line = line; lines = refl; end = subst (λ n. EndsScan limit sole (is_done at to most (length pairs)) n line refused) count (subst (λ l. EndsScan limit sole (not (is_lt (bound_cmp at to)) || (l == 0)) (most - left) line refused) p.left_is end) })
        rose last)

    -- the lines of a part that couldn't be written whole: an end stands behind them that nobody wrote
    pub scan_torn : (a b c : List Entry → Type 0) (at upto : Bound) (left : ℕ) (page : Pairs (List ℕ)) (x y z : Option (List ℕ)) → bound_cmp at upto ≡ Less → bound_cmp upto to ≢ Greater → 0 < left → i ≤ j → WroteSome y z (pair_lines (take left page))
        → Follows a b (Scans lane sole from to most at left (Wrote x y)) → Follows b c (EntersLast lane sole (calls.Part at upto) (calls.Pairs page)) → Follows a c (Transcribes limit lane sole fits i j u v (λ all. all ≡ Ok (Some (asks.Scan from to most)) ∷ []) (λ pieces. IsTorn x z [] pieces))
    scan_torn a b c at upto left page x y z less within wanted later some first second =
        let next = left - min left (length page) in
        let scanned = scans_more a b c at upto left next page (Wrote x y) (WroteSome x z) (λ xs wrote. some_behind x y z xs (pair_lines (take left page)) wrote some) less within wanted (omega arith) first second in
        let end = some_end limit sole (not (is_lt (bound_cmp upto to)) || (next == 0)) (most - next) in
        let stopped : Result (Unit {0}) (Unit {0}) = Err tt in
        scan_ends a c upto next (WroteSome x z) stopped x z end.0 end.1 (λ xs begun. some_more x z xs end.0 begun) (omega (arith, later, end.3)) (end.4 v) end.2 scanned
