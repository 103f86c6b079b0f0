use Rattle.std.proofs.Common.{◌≡◌, ◌++◌, length, string_bytes}
use denote.Text.{Utf8}
use denote.Shadow.{shadow}
use Rattle.std.specs.List.{flat_map}
use Rattle.dtml_format.specs.Replaced.{byte_of}
use Rattle.dtml_format.proofs.replacing.replaced.Given as goal

abbrev pub invariant-runs : goal.invariant-runs
invariant-runs l = record {
  is : string_bytes l.made ++ flat_map (byte_of l.mark) l.rest ≡ flat_map (byte_of l.mark) l.text;
  text : shadow (Utf8 l.rest);
}

abbrev pub decreases-runs : goal.decreases-runs
decreases-runs l = length l.rest
