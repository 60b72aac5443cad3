-- The lines that are printed of a scenario and of an analysis, each ended by a line feed. Their form is chosen here.
use Rattle.std.specs.Prelude.{ℕ, List, [], ◌++◌, Option, Some, None, codes, decimal, flat_map}
use Rattle.hex.specs.Hex.{encode_lower}
use Rattle.serde_json.specs.Written.{compact_text}
use Rattle.ov_cert.specs.declared.cert.Cert.{Cert}
use Rattle.ov_certfile.specs.CertLine.{cert_text}
use Rattle.ov_certfile.specs.DataOf.{data_of}
use Rattle.ov_graph.specs.Links.{LinkGraph}
use Rattle.ov_ids.specs.Text.{ids_text}
use Rattle.ov_net.specs.declared.journal_entry_and_changes.Change.{Change}
use Rattle.ov_net.specs.declared.journal_entry_and_changes.Change.TheVariants.{Born, Up, Down, Gone}
use Rattle.ov_net.specs.declared.journal_entry_and_changes.Entry.{Entry}
use Rattle.ov_peer.specs.declared.input_and_output.Delivery.{Delivery}
use Rattle.ov_peer.specs.PeerState.{PeerState}

-- a change, with a space before it
unfoldable pub change_text : Change → List ℕ
change_text (Born a) = codes " born " ++ decimal a
change_text (Up a b) = codes " up " ++ (decimal a ++ (codes " " ++ decimal b))
change_text (Down a b) = codes " down " ++ (decimal a ++ (codes " " ++ decimal b))
change_text (Gone a) = codes " gone " ++ decimal a

-- a delivery, with a space before it: the node that delivered, the origin of the broadcast, and its number among the
-- broadcasts of that origin
abbrev pub delivery_text : Option Delivery → List ℕ
delivery_text None = []
delivery_text (Some d) =
    codes " delivered " ++ (decimal d.node ++ (codes " " ++ (decimal d.id.origin ++ (codes " " ++ decimal d.id.seq))))

-- an accepted event: its number, the changes in order, and what was delivered
unfoldable pub entry_line : Entry → List ℕ
entry_line e =
    codes "entry " ++ (decimal e.number ++ (flat_map change_text e.changes ++ (delivery_text e.delivery ++ codes "\n")))

-- a refusal by its number
unfoldable pub refused_line : ℕ → List ℕ
refused_line number = codes "refused " ++ (decimal number ++ codes "\n")

-- a block of sections: how many sections ran at once, and how many of all their lines were accepted and how many
-- refused
unfoldable pub together_line : ℕ → ℕ → ℕ → List ℕ
together_line sections accepted refused =
    codes "together "
    ++ (decimal sections
    ++ (codes " accepted " ++ (decimal accepted ++ (codes " refused " ++ (decimal refused ++ codes "\n")))))

-- a report: its moment, and what its certificate says of the graph and the group
unfoldable pub report_line : ℕ → Cert → LinkGraph → List ℕ → List ℕ
report_line m c g q = codes "report " ++ (decimal m ++ (codes " " ++ (cert_text c g q ++ codes "\n")))

-- the certificate file of this certificate, graph, group and moment, and a line feed
abbrev pub file_text : Cert → LinkGraph → List ℕ → ℕ → List ℕ
file_text c g q m = compact_text (data_of c g q m) ++ codes "\n"

-- a node's id, its views, and its neighbours in the tree
unfoldable pub node_line : ℕ → PeerState → List ℕ
node_line id p =
    codes "node " ++ (decimal id
    ++ (codes " active " ++ (ids_text p.hyparview.views.active
    ++ (codes " passive " ++ (ids_text p.hyparview.views.passive
    ++ (codes " eager " ++ (ids_text p.tree.branches.eager
    ++ (codes " lazy " ++ (ids_text p.tree.branches.lazy ++ codes "\n")))))))))

-- a packet's place among all, its receiver, and its bytes, two hexadecimal digits in lower case for each
unfoldable pub packet_line : ℕ → ℕ → List ℕ → List ℕ
packet_line place to bytes =
    codes "packet "
    ++ (decimal place ++ (codes " to " ++ (decimal to ++ (codes " " ++ (encode_lower bytes ++ codes "\n")))))
