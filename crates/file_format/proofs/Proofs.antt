-- The theorems of Theorems.antt. Assumes nothing.
use mathlib.Core.Path.{refl}
use Rattle.file_format.specs.File.{bit_length, byte_length}
use Rattle.file_format.specs.Theorems.{Files}
use Rattle.file_format.proofs.WrittenLaws.{file_bytes, file_length, file_accepted, decoded_file, old_accepted, old_decoded}
use Rattle.file_format.proofs.AcceptedLaws.{accepted_valid, accepted_mark, accepted_new, accepted_old}

pub files : Files
unfolding bit_length byte_length
files =
    record {
      bytes = file_bytes;
      file_length = file_length;
      greatest = refl;
      accepts = file_accepted;
      gives = decoded_file;
      valid = accepted_valid;
      marked = accepted_mark;
      only = λ s b e. accepted_new s e b;
      old_only = λ s b e. accepted_old s e b;
      old_accepts = old_accepted;
      old_gives = old_decoded;
    }
