-- How large a graph may be, by whether `--large` asks for a large one. Chosen here.
use Rattle.std.specs.Prelude.{Bool, true, false}
use Rattle.ov_certfile.specs.declared.version.Version.{Version}
use Rattle.ov_certfile.specs.declared.version.Version.TheVariants.{Two, Three}
use Rattle.ov_graph.specs.declared.size_limit.SizeLimit.{SizeLimit}
use Rattle.ov_graph.specs.declared.size_limit.SizeLimit.TheVariants.{Usual, Large}

-- how many nodes a graph may have
abbrev pub limit_of : Bool → SizeLimit
limit_of false = Usual
limit_of true = Large

-- the newest version of certificate files that is read
abbrev pub newest_of : Bool → Version
newest_of false = Two
newest_of true = Three
