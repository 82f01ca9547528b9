-- How the parse of a stream goes on by the bytes after it. The lemmas are those of the grammar; proofs of other crates know them
-- by this name.
pub use Rattle.packet_grammar.proofs.GoesOn.{stream_on, fault_stays}
