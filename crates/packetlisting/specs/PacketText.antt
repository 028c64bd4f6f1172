-- What the listing of a file that should be one packet says.
use Rattle.std.specs.Prelude.{ℕ, cond, List, ◌++◌, length, Some, None, codes, decimal, Option, nat_lt}
use Rattle.lines.specs.Lines.{refusal_line}
use Rattle.packets.specs.Packets.{Shown, packet_refusal, packet_shown}
use Rattle.packets.specs.declared.header.Header.{Header}
use Rattle.packets.specs.declared.packet.Follows.{Follows}
use Rattle.packets.specs.declared.packet.Follows.TheVariants.{Tcp, Udp, LaterFragment, Other}
use Rattle.texts.specs.Text.{address_text}

-- both addresses, both ports, the protocol
abbrev pub header_text : Header → List ℕ
header_text h =
    address_text h.addresses.source ++ (codes " " ++ (address_text h.addresses.destination ++ (codes " " ++
    (decimal h.ports.source ++ (codes " " ++ (decimal h.ports.destination ++ (codes " " ++ decimal h.protocol)))))))

abbrev pub name : Follows → List ℕ
name Tcp = codes "tcp"
name Udp = codes "udp"
name LaterFragment = codes "later fragment"
name Other = codes "other"

-- what follows the header, how many bytes, and where they begin
abbrev pub rest_text : List ℕ → ℕ → ℕ → List ℕ
rest_text what count place = what ++ (codes ", " ++ (decimal count ++ (codes " bytes at " ++ decimal place)))

abbrev pub shown_text : Shown → List ℕ
shown_text s = header_text s.header ++ (codes "\n" ++ (rest_text (name s.follows) (length s.part) s.place ++ codes "\n"))

-- two lines, or one with the refusal
abbrev pub answer_text : Option ℕ → Shown → List ℕ
answer_text (Some n) s = refusal_line n
answer_text None s = shown_text s

-- a file of over 65,536 bytes is not looked into
abbrev pub packet_text : List ℕ → List ℕ
packet_text bs = cond (nat_lt 65536 (length bs)) (refusal_line 9) (answer_text (packet_refusal bs) (packet_shown bs))
