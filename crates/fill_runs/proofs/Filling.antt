-- A session over made lines serves all of them, or some where memory is wanting.
use Rattle.std.proofs.Common.{◌≡◌, ◌⊎◌, inl, inr, ℕ, ◌^◌, ◌≤◌, List, [], ◌++◌, length, Bool, true, false, Option, Some, None, refl, sym, ap, ◌∙◌, subst, arith, length-append}
use Rattle.std.specs.Prelude.{codes}
use Rattle.std.specs.List.{list_any}
use Rattle.std.proofs.lemmas.List.{append-nil}
use mathlib.Core.List.{IsPrefix}
use Rattle.counts.specs.Counts.{Rose}
use Rattle.key_bytes.proofs.Conditions.{some_same}
use Rattle.line_reader.specs.declared.limits.TheConstants.{MOST_INPUT}
use Rattle.map_model.specs.History.{Entry, IsLegal}
use Rattle.map_model.specs.Ordered.{Follows}
use Rattle.map_model.specs.declared.refusal.Refusal.{Refusal}
use Rattle.map_model.proofs.Growing.{follows_weaker}
use Rattle.outside.specs.Reading.{Told, Took, Ended}
use Rattle.outside.specs.Writing.{Wrote}
use Rattle.line_protocol.specs.Served.{served, quits}
use Rattle.session.specs.Plain.{HasNoRefusal, plain_text, plain_output}
use Rattle.session.specs.Sessions.{Session, Replies, InTurn, TakenBy}
use Rattle.session.specs.declared.session.SessionEnd.{SessionEnd}
use Rattle.session.specs.declared.session.SessionEnd.TheVariants as ends
use Rattle.session.proofs.Gaining.{begins_then}
use Rattle.session.proofs.PlainSessions.{plain_session}
use Rattle.session.proofs.SessionSteps.{ends_early}
use Rattle.sole_sessions.specs.Rooms.{HasRoomFor}
use Rattle.sole_sessions.proofs.Completing.{transcript_whole}
use Rattle.sole_sessions.proofs.NeverFull.{transcript_never_full}
use Rattle.generated_lines.specs.Generator.{made, lines_text, generated}
use Rattle.fill_runs.specs.Summary.{counted}
use Rattle.fill_runs.specs.Fills.{AllServed, SomeServed}
use Rattle.fill_runs.proofs.ToldRefusals.{memory_counted, none_counted}
use Rattle.fill_runs.proofs.Uncounted.{uncounted}
use Rattle.fill_runs.proofs.MadeLines.{AreMade, made_are, none_quits, all_served, some_served, text_short, made_count}

-- what was taken is a first part of what was left
front_taken : (t : Told) (u : Option Told) (bytes : List ℕ) → Took (Some t) u bytes → (rest : List ℕ) × (bytes ++ rest ≡ t.left)
front_taken t None bytes took = absurd took
front_taken t (Some now) bytes took = (now.left, sym took.1)

-- and all of it where 0 was answered
all_taken : (t : Told) (u : Option Told) (bytes : List ℕ) → Took (Some t) u bytes → Ended (Some t) u true → bytes ≡ t.left
all_taken t None bytes took ended = absurd took
all_taken t (Some now) bytes took ended = sym (took.1 ∙ (ap (λ l. bytes ++ l) (ended.1 refl) ∙ append-nil bytes))

-- a list that was written from nothing is what is told
same_written : (out output : List ℕ) → Wrote (Some []) (Some out) output → out ≡ output
same_written out output wrote = some_same out output wrote

module _ (number count : ℕ) (small : count ≤ 2 ^ 32) (t : Told) (left : t.left ≡ generated number count) (u : Option Told) where
  are : AreMade (made number count)
  are = made_are number 0 count (omega arith)

  -- which lines are served of what was taken
  served_all : (bytes : List ℕ) → Took (Some t) u bytes → Ended (Some t) u true → served bytes true ≡ made number count
  served_all bytes took answered = ap (λ b. served b true) (all_taken t u bytes took answered ∙ left) ∙ all_served (made number count) are

  served_front : (bytes : List ℕ) (ended : Bool) → Took (Some t) u bytes → Ended (Some t) u ended → IsPrefix (served bytes ended) (made number count) × (list_any quits (served bytes ended) ≡ false)
  served_front bytes true took answered =
      let same = served_all bytes took answered in (
        ([], append-nil (served bytes true) ∙ same),
        ap (list_any quits) same ∙ none_quits (made number count) are,
      )
  served_front bytes false took answered = let front = front_taken t u bytes took in some_served (made number count) bytes front.0 are (front.1 ∙ left)

  -- there are fewer bytes than a session may take
  pub never_spent : (bytes : List ℕ) → Took (Some t) u bytes → length bytes ≡ MOST_INPUT → ⊥
  never_spent bytes took full =
      let front = front_taken t u bytes took in
      let whole : length (bytes ++ front.0) ≡ length (lines_text (made number count)) = ap length (front.1 ∙ left) in
      let split = length-append bytes front.0 in
      let short = text_short (made number count) are in
      let lines = made_count number 0 count in absurd (omega (arith, whole, split, short, lines))

  module _ (out : List ℕ) (lane : ℕ) (sole : Bool) (fits : List Entry → Type 0) (i j : ℕ) (m n : Option Refusal) (a b : List Entry → Type 0) where
    -- no line quits
    pub all_by_quit : Session ends.Quit MOST_INPUT (Some t) u (Some []) (Some out) (Some 1) lane sole fits i j m n a b → AllServed number count out lane sole fits i j m n a b
    all_by_quit s =
        let stays = (served_front s.bytes s.ended s.took s.answered).1 in
        let never : (old : List Entry) → a old → ⊥ = λ old is.
        let r = (s.replies old is).2.replies in
        let no : false ≡ true = sym stays ∙ (ap (list_any quits) (sym r.of_all.0) ∙ r.of_all.1) in cc in
        record { replies = λ old is. absurd (never old is); plain = λ alone new full memory. absurd (never [] new); complete = λ alone new room memory. absurd (never [] new); never_full = λ alone new room. absurd (never [] new) }

    -- where there is room for the lines
    complete_by_end : (h : List Entry) → Replies ends.EndOfInput (made number count) (Some []) (Some out) (Some 1) lane true fits i j m n [] h → HasRoomFor fits (made number count) → counted (codes "NOMEM") out ≡ 0 → out ≡ plain_output (generated number count)
    complete_by_end h r room memory =
        let told : out ≡ r.output = same_written out r.output r.said in
        let lines : r.lines ≡ made number count = r.of_all.0 in
        elim (transcript_whole (Some 1) lane fits r.lines r.entries r.output r.transcript (subst IsLegal (r.grows.alone refl) r.grows.legal) (subst (HasRoomFor fits) (sym lines) room)) [
          | inl is ↦ told ∙ (is ∙ ap plain_text (lines ∙ sym (all_served (made number count) are)))
          | inr line ↦ absurd (memory_counted (Some 1) lane true fits [] r.lines r.entries r.output r.transcript (ap (counted (codes "NOMEM")) (sym told) ∙ memory) line)
        ]

    -- and whatever memory was wanting
    full_by_end : (h : List Entry) → Replies ends.EndOfInput (made number count) (Some []) (Some out) (Some 1) lane true fits i j m n [] h → HasRoomFor fits (made number count) → counted (codes "FULL") out ≡ 0
    full_by_end h r room =
        let none = transcript_never_full (Some 1) lane fits r.lines r.entries r.output r.transcript (subst IsLegal (r.grows.alone refl) r.grows.legal) (subst (HasRoomFor fits) (sym r.of_all.0) room) in
        ap (counted (codes "FULL")) (same_written out r.output r.said) ∙ uncounted (codes "FULL") r.output none

    -- the input came to its end
    pub all_by_end : Session ends.EndOfInput MOST_INPUT (Some t) u (Some []) (Some out) (Some 1) lane sole fits i j m n a b → AllServed number count out lane sole fits i j m n a b
    all_by_end s =
        let answered = subst (Ended (Some t) u) s.taken.1 s.answered in
        let same : served s.bytes s.ended ≡ made number count = ap (served s.bytes) s.taken.1 ∙ served_all s.bytes s.took answered in
        let of_made : (found : (h : List Entry) × b h × InTurn ends.EndOfInput (served s.front false) (served s.bytes s.ended) (Some []) (Some out) (Some 1) lane sole fits i j m n [] h) → sole ≡ true → Replies ends.EndOfInput (made number count) (Some []) (Some out) (Some 1) lane true fits i j m n [] found.0 = λ found alone.
        subst (λ o. Replies ends.EndOfInput (made number count) (Some []) (Some out) (Some 1) lane o fits i j m n [] found.0) alone (subst (λ all. Replies ends.EndOfInput all (Some []) (Some out) (Some 1) lane sole fits i j m n [] found.0) same found.2.replies) in record {
          replies = subst (λ all. Follows a b (Replies ends.EndOfInput all (Some []) (Some out) (Some 1) lane sole fits i j m n)) same (follows_weaker a b _ _ (λ old new p. p.replies) s.replies);
          plain = λ alone new full memory.
              let p = plain_session ends.EndOfInput MOST_INPUT (Some t) u (Some []) (Some out) (Some 1) lane fits i j m n a b new (subst (λ o. Session ends.EndOfInput MOST_INPUT (Some t) u (Some []) (Some out) (Some 1) lane o fits i j m n a b) alone s) in
              let told = same_written out p.output p.wrote in
              let r = (s.replies [] new).2.replies in
              let none : HasNoRefusal out = subst HasNoRefusal (sym (same_written out r.output r.said)) (none_counted (Some 1) lane sole fits [] r.lines r.entries r.output r.transcript
              (ap (counted (codes "FULL")) (sym (same_written out r.output r.said)) ∙ full) (ap (counted (codes "NOMEM")) (sym (same_written out r.output r.said)) ∙ memory)) in
              let taken = all_taken t u p.bytes p.took (subst (Ended (Some t) u) p.taken.1 p.answered) ∙ left in
              told ∙ (p.plain (subst HasNoRefusal told none) ∙ ap plain_output taken);
          complete = λ alone new room memory. let found = s.replies [] new in complete_by_end found.0 (of_made found alone) room memory;
          never_full = λ alone new room. let found = s.replies [] new in full_by_end found.0 (of_made found alone) room;
        }

    -- memory was wanting
    pub some_by_want : Session ends.NoMemory MOST_INPUT (Some t) u (Some []) (Some out) (Some 1) lane sole fits i j m n a b → SomeServed number count lane sole fits i j m n a b
    some_by_want s = (
      out,
      λ old is.
          let f = s.replies old is in
          let r = f.2.replies in (
            f.0,
            f.1,
            record {
              lines = r.lines;
              entries = r.entries;
              output = r.output;
              of_all = begins_then r.lines (served s.bytes s.ended) (made number count) r.of_all (served_front s.bytes s.ended s.took s.answered).0;
              said = r.said;
              grows = r.grows;
              transcript = r.transcript;
              rose = r.rose;
              ends = r.ends;
            },
          ),
    )

    -- the two ends that leave an output, and those that don't come
    pub all_by : (end : SessionEnd) (w : List ℕ) → w ≡ [] → (end ≡ ends.EndOfInput) ⊎ (end ≡ ends.Quit) → Session end MOST_INPUT (Some t) u (Some w) (Some out) (Some 1) lane sole fits i j m n a b → AllServed number count out lane sole fits i j m n a b
    all_by end w empty (inl is) s =
        all_by_end (subst (λ e. Session e MOST_INPUT (Some t) u (Some []) (Some out) (Some 1) lane sole fits i j m n a b) is (subst (λ l. Session end MOST_INPUT (Some t) u (Some l) (Some out) (Some 1) lane sole fits i j m n a b) empty s))
    all_by end w empty (inr is) s =
        all_by_quit (subst (λ e. Session e MOST_INPUT (Some t) u (Some []) (Some out) (Some 1) lane sole fits i j m n a b) is (subst (λ l. Session end MOST_INPUT (Some t) u (Some l) (Some out) (Some 1) lane sole fits i j m n a b) empty s))

    pub want_by : (w : List ℕ) → w ≡ [] → Session ends.NoMemory MOST_INPUT (Some t) u (Some w) (Some out) (Some 1) lane sole fits i j m n a b → SomeServed number count lane sole fits i j m n a b
    want_by w empty s = some_by_want (subst (λ l. Session ends.NoMemory MOST_INPUT (Some t) u (Some l) (Some out) (Some 1) lane sole fits i j m n a b) empty s)

    pub never_by : (end : SessionEnd) (w : Option (List ℕ)) → (end ≡ ends.ReadFault → Rose 0 0) → (end ≡ ends.WriteFault → Rose 0 0) → (end ≡ ends.ReadFault) ⊎ (end ≡ ends.WriteFault) ⊎ ((taken : ℕ) × (end ≡ ends.Spent taken))
        → Session end MOST_INPUT (Some t) u w (Some out) (Some 1) lane sole fits i j m n a b → ⊥
    never_by end w read write (inl is) s = let rose = read is in absurd (omega (arith, rose))
    never_by end w read write (inr (inl is)) s = let rose = write is in absurd (omega (arith, rose))
    never_by end w read write (inr (inr spent)) s =
        let taken = subst (λ e. TakenBy e MOST_INPUT s.bytes s.ended) spent.1 s.taken in never_spent s.bytes s.took taken.0

-- memory was wanting before the first line
pub none_by_want : (number count : ℕ) → count ≤ 2 ^ 32 → (lane : ℕ) (sole : Bool) (fits : List Entry → Type 0) (i : ℕ) (m : Option Refusal) (a : List Entry → Type 0) → ((old : List Entry) → a old → IsLegal old) → SomeServed number count lane sole fits i i m m a a
none_by_want number count small lane sole fits i m a legal =
    let t : Told = record { given = []; left = generated number count; ended = false } in
    some_by_want number count small t refl (Some t) [] lane sole fits i i m m a a (ends_early MOST_INPUT (Some t) (Some []) (Some 1) lane sole fits i m a legal)
