pub mod PacketText
