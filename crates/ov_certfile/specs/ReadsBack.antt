-- What is written can be read back, where this is the newest version that is read.
use Rattle.std.specs.Prelude.{ℕ, List, Ok}
use Rattle.ov_graph.specs.Links.{LinkGraph}
use Rattle.ov_cert.specs.declared.cert.Cert.{Cert}
use Rattle.ov_certfile.specs.DataOf.{data_of}
use Rattle.ov_certfile.specs.Says.{SaysFile, SaysText}
use Rattle.ov_certfile.specs.declared.version.Version.{Version}

-- the object written for a certificate, its graph, its group and a moment has exactly these as its meaning
pub record ReadsBack (newest : Version) (c : Cert) (g : LinkGraph) (group : List ℕ) (moment : ℕ) : Type 0 where
  pub says
      : SaysFile newest (data_of c g group moment)
      (Ok (record { moment = moment; graph = g; group = group; cert = c }))

-- the text has exactly these as its meaning
pub record TextReadsBack (newest : Version) (c : Cert) (g : LinkGraph) (group : List ℕ) (moment : ℕ) (text : List ℕ)
    : Type 0 where
  pub says : SaysText newest text (Ok (record { moment = moment; graph = g; group = group; cert = c }))
