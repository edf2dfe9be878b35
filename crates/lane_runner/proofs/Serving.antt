-- What a session's contract says over a whole script, told as what a lane served.
use Rattle.std.proofs.Common.{◌≡◌, ℕ, ◌+◌, List, [], ◌∷◌, ◌++◌, length, filter, Bool, true, false, refl, sym, ap, ◌∙◌, subst, Option, Some, arith, length-append, append_assoc, if◌then◌else◌, ◌||◌}
use Rattle.std.specs.List.{list_any, sum_by}
use Rattle.std.proofs.lemmas.List.{append-nil}
use Rattle.std.proofs.lemmas.List.Elements.{filter-append}
use mathlib.Core.List.{IsPrefix}
use Rattle.counts.specs.Counts.{RoseBy}
use Rattle.line_reader.specs.Cut.{lines, ended_lines, open_part, last_line}
use Rattle.line_reader.proofs.Cutting.{lines_are, ended_lines-append}
use Rattle.line_protocol.specs.Served.{has_bytes, quits, until_quit, served}
use Rattle.map_model.specs.History.{Entry}
use Rattle.map_model.specs.declared.refusal.Refusal.{Refusal}
use Rattle.outside.specs.Reading.{Told, Took, Ended}
use Rattle.session.specs.Sessions.{Session, Replies, TakenBy, ServedBy, SaidBy}
use Rattle.session.specs.Transcripts.{owed}
use Rattle.session.proofs.Joining.{are_served_at}
use Rattle.session.specs.declared.session.SessionEnd.{SessionEnd}
use Rattle.session.specs.declared.session.SessionEnd.TheVariants as ends
use Rattle.lane_runner.specs.Runs.{LinesBy, OutputBy, ServesScript, NothingFits}

-- lines that come behind a QUIT change nothing of what is served
until-append : (xs ys : List (List ℕ)) → list_any quits (until_quit xs) ≡ true → until_quit (xs ++ ys) ≡ until_quit xs
until-append [] ys some = absurd cc
until-append (x ∷ xs) ys some =
    (elim (quits x) as (λ b. (b || list_any quits (if b then [] else until_quit xs)) ≡ true → x ∷ (if b then [] else until_quit (xs ++ ys)) ≡ x ∷ (if b then [] else until_quit xs)) [
      | true ↦ λ here. refl
      | false ↦ λ later. ap (λ w. x ∷ w) (until-append xs ys later)
    ]) some

-- nor do bytes that come behind it
served_more : (bytes more : List ℕ) → list_any quits (served bytes false) ≡ true → served (bytes ++ more) true ≡ served bytes false
served_more bytes more quit =
    let first = ended_lines [] bytes in
    let rest = ended_lines (open_part [] bytes) more ++ last_line (open_part [] (bytes ++ more)) in
    let all : lines (bytes ++ more) true ≡ first ++ rest = lines_are (bytes ++ more) true ∙ (ap (λ w. w ++ last_line (open_part [] (bytes ++ more))) (ended_lines-append [] bytes more) ∙ append_assoc first _ _) in
    let some : lines bytes false ≡ first = lines_are bytes false ∙ append-nil first in
    let front : served bytes false ≡ until_quit (filter has_bytes first) = ap (λ ls. until_quit (filter has_bytes ls)) some in
    ap (λ ls. until_quit (filter has_bytes ls)) all
    ∙ (ap until_quit (filter-append has_bytes first rest)
    ∙ (until-append (filter has_bytes first) (filter has_bytes rest) (ap (list_any quits) (sym front) ∙ quit) ∙ sym front))

-- what a script tells before the first read
abbrev pub at_start : List ℕ → Told
at_start script = record { given = []; left = script; ended = false }

-- By each end of a session that no fault ended and whose budget covers the script: which lines it served, and what it wrote.
module _ (script bytes : List ℕ) (ended : Bool) (t : Told) (out text : List ℕ) (all : List (List ℕ)) (took : Took (Some (at_start script)) (Some t) bytes) (answered : Ended (Some (at_start script)) (Some t) ended) where
  whole : script ≡ bytes ++ t.left
  whole = took.1

  ended_whole : ended ≡ true → script ≡ bytes
  ended_whole is = whole ∙ (ap (λ l. bytes ++ l) (answered.1 is) ∙ append-nil bytes)

  quit_served : (e : Bool) → ended ≡ e → list_any quits (served bytes e) ≡ true → served script true ≡ served bytes e
  quit_served true is quit = ap (λ s. served s true) (ended_whole is)
  quit_served false is quit = ap (λ s. served s true) whole ∙ served_more bytes t.left quit

  pub ends_by : (end : SessionEnd) → (end ≡ ends.ReadFault → ⊥) → (end ≡ ends.WriteFault → ⊥) → TakenBy end (length script + 1) bytes ended → ServedBy end (served bytes ended) all → SaidBy end (Some []) (Some out) text → LinesBy end script all × OutputBy end text out
  ends_by ends.Quit reads writes taken of_all said = (of_all.0 ∙ sym (quit_served ended refl (subst (λ ls. list_any quits ls ≡ true) of_all.0 of_all.1)), cc said)
  ends_by ends.EndOfInput reads writes taken of_all said = (of_all.0 ∙ (ap (served bytes) taken.1 ∙ ap (λ s. served s true) (sym (ended_whole taken.1))), cc said)
  ends_by ends.ReadFault reads writes taken of_all said = absurd (reads refl)
  ends_by ends.WriteFault reads writes taken of_all said = absurd (writes refl)
  ends_by ends.NoMemory reads writes taken of_all said = ((bytes, ended, (t.left, sym whole), of_all), subst (λ o. IsPrefix o text) (let same : said.0 ≡ out = sym (cc said.2) in same) said.1)
  ends_by (ends.Spent count) reads writes taken of_all said = absurd (omega (arith, ap length whole, length-append bytes t.left, taken.0))

-- What a lane served is so where less is known of what fits.
module _ (limit : Option ℕ) (lane : ℕ) (sole : Bool) (less fits : List Entry → Type 0) (fewer : (h : List Entry) → fits h → less h) where
  pub serves_weaker : (script : List ℕ) (end : SessionEnd) (output : List ℕ) (owes : ℕ) (before now : List Entry) → ServesScript limit lane sole less script end output owes before now → ServesScript limit lane sole fits script end output owes before now
  serves_weaker script end output owes before now s =
      let t = s.transcript in record {
        lines = s.lines;
        entries = s.entries;
        text = s.text;
        of_script = s.of_script;
        said = s.said;
        mine = s.mine;
        alone = s.alone;
        transcript = record { pieces = t.pieces; of_lines = t.of_lines; of_entries = t.of_entries; of_output = t.of_output; each = are_served_at limit lane sole fits less fewer t.pieces before before (λ alone. refl) t.each };
        owed = s.owed;
      }

-- A session over a script from its start, with nothing said before, serves the script for its lane.
module _ (script : List ℕ) (t : Told) (out : List ℕ) (end : SessionEnd) (limit : Option ℕ) (lane : ℕ) (sole : Bool) (fits : List Entry → Type 0) (i j : ℕ) (u v : Option Refusal) (before now : List Entry → Type 0) (old new : List Entry) where
  pub serves_script : Session end (length script + 1) (Some (at_start script)) (Some t) (Some []) (Some out) limit lane sole fits i j u v before now
      → before old → ((h : List Entry) → now h → h ≡ new) → (end ≡ ends.ReadFault → ⊥) → (end ≡ ends.WriteFault → ⊥)
      → (owes : ℕ) × ServesScript limit lane sole fits script end out owes old new × RoseBy owes i j × IsPrefix old new
  serves_script s stood only reads writes =
      let found = s.replies old stood in
      let r = subst (λ h. Replies end (served s.bytes s.ended) (Some []) (Some out) limit lane sole fits i j u v old h) (only found.0 found.1) found.2.replies in
      let by = ends_by script s.bytes s.ended t out r.output r.lines s.took s.answered end reads writes s.taken r.of_all r.said in (
        sum_by (owed limit) r.transcript.pieces,
        record {
          lines = r.lines;
          entries = r.entries;
          text = r.output;
          of_script = by.0;
          said = by.1;
          mine = r.grows.mine;
          alone = r.grows.alone;
          transcript = r.transcript;
          owed = refl;
        },
        r.rose,
        r.grows.begins,
      )

-- So does one whose source, sink and budget are equal to fresh ones.
module _ (budget : ℕ) (t₀ t : Told) (w₀ out : List ℕ) (end : SessionEnd) (limit : Option ℕ) (lane : ℕ) (sole : Bool) (fits : List Entry → Type 0) (i j : ℕ) (u v : Option Refusal) (before now : List Entry → Type 0) (old new : List Entry) (script : List ℕ) where
  pub first_serves : Session end budget (Some t₀) (Some t) (Some w₀) (Some out) limit lane sole fits i j u v before now
      → budget ≡ length t₀.left + 1 → t₀ ≡ at_start script → w₀ ≡ []
      → before old → ((h : List Entry) → now h → h ≡ new) → (end ≡ ends.ReadFault → ⊥) → (end ≡ ends.WriteFault → ⊥)
      → (owes : ℕ) × ServesScript limit lane sole fits script end out owes old new × RoseBy owes i j × IsPrefix old new
  first_serves s is_budget is_told is_silent stood only reads writes =
      let b : budget ≡ length script + 1 = is_budget ∙ ap (λ (x : Told). length x.left + 1) is_told in
      let s1 = subst (λ b. Session end b (Some t₀) (Some t) (Some w₀) (Some out) limit lane sole fits i j u v before now) b s in
      let s2 = subst (λ x. Session end (length script + 1) (Some x) (Some t) (Some w₀) (Some out) limit lane sole fits i j u v before now) is_told s1 in
      let s3 = subst (λ x. Session end (length script + 1) (Some (at_start script)) (Some t) (Some x) (Some out) limit lane sole fits i j u v before now) is_silent s2 in
      serves_script script t out end limit lane sole fits i j u v before now old new s3 stood only reads writes

-- And for a forked lane that was ready: it isn't alone, its count of refusals begins at 0, and nothing is known of room.
module _ (budget : ℕ) (t₀ t : Told) (w₀ out : List ℕ) (end : SessionEnd) (limit₀ limit : Option ℕ) (lane : ℕ) (sole : Bool) (fits : List Entry → Type 0) (i j : ℕ) (u v : Option Refusal) (before now : List Entry → Type 0) (seen₀ seen new : List Entry) (script : List ℕ) where
  pub ready_serves : Session end budget (Some t₀) (Some t) (Some w₀) (Some out) limit₀ lane sole fits i j u v before now
      → budget ≡ length t₀.left + 1 → t₀ ≡ at_start script → w₀ ≡ [] → limit₀ ≡ limit → sole ≡ false → i ≡ 0 → seen₀ ≡ seen
      → before seen₀ → ((h : List Entry) → now h → h ≡ new) → (end ≡ ends.ReadFault → ⊥) → (end ≡ ends.WriteFault → ⊥)
      → (owes : ℕ) × ServesScript limit lane false NothingFits script end out owes seen new × RoseBy owes 0 j
  ready_serves s is_budget is_told is_silent is_limit is_sole is_count is_seen stood only reads writes =
      let s1 = subst (λ x. Session end budget (Some t₀) (Some t) (Some w₀) (Some out) x lane sole fits i j u v before now) is_limit s in
      let s2 = subst (λ x. Session end budget (Some t₀) (Some t) (Some w₀) (Some out) limit lane x fits i j u v before now) is_sole s1 in
      let s3 = subst (λ x. Session end budget (Some t₀) (Some t) (Some w₀) (Some out) limit lane false fits x j u v before now) is_count s2 in
      let r = first_serves budget t₀ t w₀ out end limit lane false fits 0 j u v before now seen new script s3 is_budget is_told is_silent (subst before is_seen stood) only reads writes in
      (r.0, serves_weaker limit lane false fits NothingFits (λ h none. absurd none) script end out r.0 seen new r.1, r.2)
