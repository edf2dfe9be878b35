-- The line that asks for a request.
use Rattle.std.specs.Prelude.{ℕ, List, [], ◌∷◌, codes, decimal}
use Rattle.std.specs.List.{join_with_byte}
use Rattle.key_bytes.specs.declared.bound.Bound.{Bound}
use Rattle.key_bytes.specs.declared.bound.Bound.TheVariants.{Low, At, High}
use Rattle.line_protocol.specs.Escape.{escape}
use Rattle.line_protocol.specs.declared.request.Request.{Request}
use Rattle.line_protocol.specs.declared.request.Request.TheVariants.{Put, Get, Del, Scan, Quit}

-- the word of an end of a scan; `*` is either open one
abbrev pub end_word : Bound → List ℕ
end_word Low = codes "*"
end_word (At key) = escape key
end_word High = codes "*"

-- the words of the line
abbrev pub request_words : Request → List (List ℕ)
request_words (Put key value) = codes "PUT" ∷ escape key ∷ escape value ∷ []
request_words (Get key) = codes "GET" ∷ escape key ∷ []
request_words (Del key) = codes "DEL" ∷ escape key ∷ []
request_words (Scan from upto limit) = codes "SCAN" ∷ end_word from ∷ end_word upto ∷ decimal limit ∷ []
request_words Quit = codes "QUIT" ∷ []

-- the words, with a space between each two
abbrev pub request_text : Request → List ℕ
request_text asks = join_with_byte 32 (request_words asks)
