-- How the sessions of one connection after another add up.
use Rattle.std.proofs.Common.{◌≡◌, ℕ, ◌+◌, arith, length, length-append, List, [], ◌∷◌, ◌++◌, Bool, false, ◌||◌, refl, sym, ap, subst, ◌∙◌, append_assoc, Option, Some, None}
use Rattle.std.proofs.lemmas.List.{append-nil}
use mathlib.Core.List.{IsPrefix}
use Rattle.line_protocol.specs.Requests.{Asked}
use Rattle.line_protocol.specs.Served.{served}
use Rattle.map_model.specs.History.{Entry, IsLegal}
use Rattle.map_model.specs.Ordered.{Follows, Grows}
use Rattle.map_model.specs.declared.refusal.Refusal.{Refusal}
use Rattle.map_model.proofs.Growing.{follows_weaker}
use Rattle.outside.specs.Connections.{Connection, IsUnread, IsUnwritten, Ends, Closes}
use Rattle.outside.specs.Reading.{Told, Took, Ended}
use Rattle.outside.specs.Writing.{Wrote}
use Rattle.session.specs.Sessions.{Session, InTurn, SaidBy}
use Rattle.session.specs.Transcripts.{Exchange, Transcribes, AreServed}
use Rattle.session.specs.declared.session.SessionEnd.{SessionEnd}
use Rattle.session.specs.declared.session.SessionEnd.TheVariants as ends
use Rattle.session.proofs.Joining.{transcribes_none, transcribes_then, transcribes_rest, transcribes_told}
use Rattle.session.proofs.PlainSessions.{written_by, wrote_by}
use Rattle.index_server.specs.Connections.{IsSession, AreSessions, ClosedBehind, AreClosed, ServesClosed}
use Rattle.index_server.specs.Hands.{NothingFits, AreMany, ServesCounted, ServesMany}
use Rattle.index_server.specs.declared.connection.TheConstants.{CONNECTION_BYTES}

-- what a session said, where nothing had been said before
said_first : (end : SessionEnd) (w v : Option (List ℕ)) (text : List ℕ) (said : SaidBy end w v text) → SaidBy end (Some []) (Some (written_by end w v text said)) text
said_first ends.Quit w v text said = refl
said_first ends.EndOfInput w v text said = refl
said_first ends.ReadFault w v text said = refl
said_first ends.WriteFault w v text said = (said.0, said.1, refl)
said_first ends.NoMemory w v text said = (said.0, said.1, refl)
said_first (ends.Spent taken) w v text said = refl

-- the exchanges are the session of one connection, which is as its ends tell
pub record IsOne (t u : Option Told) (w v : Option (List ℕ)) (pieces : List Exchange) : Type 0 where
  pub connection : Connection
  pub took : Took t u connection.taken
  pub answered : Ended t u connection.ended
  pub wrote : Wrote w v connection.written
  pub sessions : AreSessions (connection ∷ []) pieces

-- where a door tells the connection that it closed, it is the one whose session it was
closed_one : (before now : Option (List Connection)) (p : Option Connection) (t u : Option Told) (w v : Option (List ℕ)) (bytes : List ℕ) (ended : Bool) (text : List ℕ)
    → IsUnread t → IsUnwritten w → Took t u bytes → Ended t u ended → Wrote w v text → Ends u v p → Closes before now p → ClosedBehind before now (record { taken = bytes; ended = ended; written = text } ∷ [])
closed_one before None p t u w v bytes ended text unread unwritten took answered wrote told closes = tt
closed_one None (Some now) p t u w v bytes ended text unread unwritten took answered wrote told closes = absurd closes
closed_one (Some before) (Some now) None t u w v bytes ended text unread unwritten took answered wrote told closes = absurd closes
closed_one (Some before) (Some now) (Some c) t None w v bytes ended text unread unwritten took answered wrote told closes = absurd told
closed_one (Some before) (Some now) (Some c) t (Some u) w None bytes ended text unread unwritten took answered wrote told closes = absurd told
closed_one (Some before) (Some now) (Some c) None (Some u) w (Some v) bytes ended text unread unwritten took answered wrote told closes = absurd (cc took)
closed_one (Some before) (Some now) (Some c) (Some t) (Some u) None (Some v) bytes ended text unread unwritten took answered wrote told closes = absurd (cc wrote)
closed_one (Some before) (Some now) (Some c) (Some t) (Some u) (Some w) (Some v) bytes ended text unread unwritten took answered wrote told closes =
    let given : u.given ≡ bytes = took.0 ∙ ap (λ g. g ++ bytes) unread.0 in
    let zero : u.ended ≡ ended = answered.0 ∙ ap (λ e. e || ended) unread.1 in
    let said : v ≡ text = (let s : Some v ≡ Some (w ++ text) = wrote in cc s) ∙ ap (λ x. x ++ text) unwritten in
    closes ∙ (ap (λ (one : Connection). before ++ one ∷ []) told ∙ (λ i. before ++ record { taken = given i; ended = zero i; written = said i } ∷ []))

closed_then : (a b c : Option (List Connection)) (first second : List Connection) → ClosedBehind a b first → ClosedBehind b c second → ClosedBehind a c (first ++ second)
closed_then a b None first second p q = tt
closed_then a None (Some c) first second p q = absurd q
closed_then None (Some b) (Some c) first second p q = absurd p
closed_then (Some a) (Some b) (Some c) first second p q = q ∙ (ap (λ (l : List Connection). l ++ second) p ∙ append_assoc a first second)

sessions_then : (first second : List Connection) (xs ys : List Exchange) → AreSessions first xs → AreSessions second ys → AreSessions (first ++ second) (xs ++ ys)
sessions_then [] second xs ys none all = subst (λ l. AreSessions second (l ++ ys)) (sym none) all
sessions_then (c ∷ first) second xs ys some all =
    (some.0, some.1, some.2 ++ ys, ap (λ l. l ++ ys) some.3 ∙ append_assoc some.1 some.2 ys, some.4, sessions_then first second some.2 ys some.5 all)

none_closed : (closed : Option (List Connection)) → ClosedBehind closed closed []
none_closed None = tt
none_closed (Some closed) = sym (append-nil closed)

module _ (lane : ℕ) (sole : Bool) (fits : List Entry → Type 0) where
  -- no connection yet
  pub serves_none : (a : List Entry → Type 0) (count : ℕ) (last : Option Refusal) (closed : Option (List Connection)) → ((old : List Entry) → a old → IsLegal old) → Follows a a (ServesClosed lane sole fits count count last last closed closed)
  serves_none a count last closed legal = transcribes_none None lane sole fits a count last _ (AreClosed closed closed) legal tt ([], none_closed closed, refl)

  -- the store rested first
  pub serves_rested : (a b : List Entry → Type 0) (i j : ℕ) (u v : Option Refusal) (closed : Option (List Connection)) → ((old : List Entry) → a old → IsLegal old) → j ≡ i → v ≡ u → Follows a b (λ old new. new ≡ old) → Follows a b (ServesClosed lane sole fits i j u v closed closed)
  serves_rested a b i j u v closed legal same last rest = transcribes_rest None lane sole fits a a b i i j u u v _ (AreClosed closed closed) same last (serves_none a i u closed legal) rest

  -- one connection, as its ends tell it
  session_one : (a b : List Entry → Type 0) (i j : ℕ) (m n : Option Refusal) (end : SessionEnd) (t u : Option Told) (w v : Option (List ℕ))
      → Session end CONNECTION_BYTES t u w v None lane sole fits i j m n a b → Follows a b (Transcribes None lane sole fits i j m n (λ (asked : List Asked). Unit {0}) (IsOne t u w v))
  session_one a b i j m n end t u w v s = follows_weaker a b _ _ told s.replies
    where
      told : (old new : List Entry) → InTurn end (served s.front false) (served s.bytes s.ended) w v None lane sole fits i j m n old new → Transcribes None lane sole fits i j m n (λ (asked : List Asked). Unit {0}) (IsOne t u w v) old new
      told old new turn =
          let r = turn.replies in
          let written = written_by end w v r.output r.said in
          let connection : Connection = record { taken = s.bytes; ended = s.ended; written = written } in
          let is : IsSession connection end r.transcript.pieces = record {
            lines = r.lines;
            taken = s.taken;
            of_all = r.of_all;
            asked = r.transcript.of_lines;
            said = subst (SaidBy end (Some []) (Some written)) (sym r.transcript.of_output) (said_first end w v r.output r.said);
          } in
          record {
            pieces = r.transcript.pieces;
            asked = tt;
            said = record {
              connection = connection;
              took = s.took;
              answered = s.answered;
              wrote = wrote_by end w v r.output r.said;
              sessions = (end, r.transcript.pieces, [], sym (append-nil r.transcript.pieces), is, refl);
            };
            grows = subst (λ E. Grows lane sole E old new) (sym r.transcript.of_entries) r.grows;
            each = r.transcript.each;
            rose = r.rose;
            ends = r.ends;
          }

  -- it was closed
  serves_one : (a b : List Entry → Type 0) (i j : ℕ) (m n : Option Refusal) (before now : Option (List Connection)) (end : SessionEnd) (t u : Option Told) (w v : Option (List ℕ)) (p : Option Connection)
      → IsUnread t → IsUnwritten w → Ends u v p → Closes before now p → Session end CONNECTION_BYTES t u w v None lane sole fits i j m n a b → Follows a b (ServesClosed lane sole fits i j m n before now)
  serves_one a b i j m n before now end t u w v p unread unwritten told closes s =
      transcribes_told None lane sole fits a b i j m n _ _ (IsOne t u w v) (AreClosed before now) (λ xs all. all)
      (λ xs one. (one.connection ∷ [], closed_one before now p t u w v one.connection.taken one.connection.ended one.connection.written unread unwritten one.took one.answered one.wrote told closes, one.sessions))
      (session_one a b i j m n end t u w v s)

  -- it is counted
  counted_one : (a b : List Entry → Type 0) (i j : ℕ) (m n : Option Refusal) (end : SessionEnd) (t u : Option Told) (w v : Option (List ℕ))
      → Session end CONNECTION_BYTES t u w v None lane sole fits i j m n a b → Follows a b (Transcribes None lane sole fits i j m n (λ (asked : List Asked). Unit {0}) (AreMany 1))
  counted_one a b i j m n end t u w v s =
      transcribes_told None lane sole fits a b i j m n _ _ (IsOne t u w v) (AreMany 1) (λ xs all. all) (λ xs one. (one.connection ∷ [], refl, one.sessions)) (session_one a b i j m n end t u w v s)

-- one connection more
pub serves_more : (lane : ℕ) (sole : Bool) (fits less : List Entry → Type 0) (a b c : List Entry → Type 0) (i j k : ℕ) (l m n : Option Refusal) (before now later : Option (List Connection)) (end : SessionEnd) (t u : Option Told) (w v : Option (List ℕ)) (p : Option Connection)
    → ((h : List Entry) → fits h → less h) → IsUnread t → IsUnwritten w → Ends u v p → Closes now later p
    → Session end CONNECTION_BYTES t u w v None lane sole less j k m n b c → Follows a b (ServesClosed lane sole fits i j l m before now) → Follows a c (ServesClosed lane sole fits i k l n before later)
serves_more lane sole fits less a b c i j k l m n before now later end t u w v p fewer unread unwritten told closes s first =
    transcribes_then None lane sole fits a b c less i j k l m n _ _ _ (AreClosed before now) (AreClosed now later) (AreClosed before later) fewer (λ xs ys p q. tt)
    (λ xs ys any p q. (p.0 ++ q.0, closed_then before now later p.0 q.0 p.1 q.1, sessions_then p.0 q.0 xs ys p.2 q.2))
    first (serves_one lane sole less b c j k m n now later end t u w v p unread unwritten told closes s)

-- no connection is counted yet
pub counted_rested : (lane : ℕ) (sole : Bool) (a b : List Entry → Type 0) (i j : ℕ) (u v : Option Refusal) (many : ℕ) → ((old : List Entry) → a old → IsLegal old) → j ≡ i → v ≡ u → 0 ≡ many → Follows a b (λ old new. new ≡ old) → Follows a b (ServesCounted lane sole i j u v many)
counted_rested lane sole a b i j u v many legal same last zero rest =
    transcribes_rest None lane sole NothingFits a a b i i j u u v _ (AreMany many) same last (transcribes_none None lane sole NothingFits a i u _ (AreMany many) legal tt ([], zero, refl)) rest

-- one connection more is counted
pub counted_more : (lane : ℕ) (sole : Bool) (less : List Entry → Type 0) (a b c : List Entry → Type 0) (i j k : ℕ) (l m n : Option Refusal) (many more : ℕ) (end : SessionEnd) (t u : Option Told) (w v : Option (List ℕ)) → more ≡ many + 1
    → Session end CONNECTION_BYTES t u w v None lane sole less j k m n b c → Follows a b (ServesCounted lane sole i j l m many) → Follows a c (ServesCounted lane sole i k l n more)
counted_more lane sole less a b c i j k l m n many more end t u w v one_more s first =
    transcribes_then None lane sole NothingFits a b c less i j k l m n _ _ _ (AreMany many) (AreMany 1) (AreMany more) (λ h none. absurd none) (λ xs ys p q. tt)
    (λ xs ys any p q. (p.0 ++ q.0, omega (arith, length-append p.0 q.0, p.1, q.1, one_more), sessions_then p.0 q.0 xs ys p.2 q.2))
    first (counted_one lane sole less b c j k m n end t u w v s)

-- what a lane served, by the histories that it had seen and has seen
pub counted_serves : (a b : List Entry → Type 0) (lane : ℕ) (sole : Bool) (i j : ℕ) (m n : Option Refusal) (many : ℕ) (old new : List Entry) → a old → ((h : List Entry) → b h → h ≡ new) → Follows a b (ServesCounted lane sole i j m n many) → IsPrefix old new × (sole ≡ false → ServesMany lane many old new)
counted_serves a b lane sole i j m n many old new stood only follows =
    let found = follows old stood in
    let r = subst (ServesCounted lane sole i j m n many old) (only found.0 found.1) found.2 in
    (r.grows.begins, λ among. record { pieces = r.pieces; sessions = r.said; mine = r.grows.mine; each = subst (λ s. AreServed None lane s NothingFits old r.pieces) among r.each })
