-- What a source of generated lines tells.
use Rattle.std.specs.Prelude.{◌-◌, ◌++◌, drop}
use Rattle.outside.specs.Reading.{Told}
use Rattle.generated_lines.specs.Generator.{made_from, lines_text}
use Rattle.generated_lines.specs.declared.generated.Generated.{Generated}

-- the bytes given, what is left of the line at hand with the lines that aren't made yet, and whether 0 was answered
abbrev pub told_of : Generated → Told
told_of g = record {
  given = g.given.bytes;
  left = drop g.at g.line.items ++ lines_text (made_from g.number g.made (g.count - g.made));
  ended = g.ended;
}
