-- A decoding that took nothing stands at no bytes.
use Rattle.std.proofs.Common.{ℕ, ◌<◌, [], refl, sym, subst}
use Rattle.std.proofs.lemmas.List.Elements.{All-nil}
use Rattle.etm_types.specs.Settings.{Sizes}
use Rattle.packet_grammar.specs.Parsed.{no_sync}
use Rattle.packet_reader.proofs.Adds.{nothing_is_a_stream}
use Rattle.program_image.specs.declared.image.Image.{Image}
use Rattle.stream_decoder.specs.Decoding.{Begins, Decoding}
use Rattle.stream_decoder.specs.Stands.{Came}

pub came_first : (image : Image) (s : Sizes) (d : Decoding) → Begins s d → Came image d [] []
came_first image s d is =
    subst (λ (x : Decoding). Came image x [] []) (sym is.fresh) (record {
      small = All-nil (λ (b : ℕ). b < 256);
      reads = is.reads;
      done = record { due = refl; todo = refl };
      took = [];
      comes = ([], no_sync, nothing_is_a_stream (d.reader).settings, refl, refl, (refl, refl, refl));
      made = refl;
      counts = λ free. refl;
    })
