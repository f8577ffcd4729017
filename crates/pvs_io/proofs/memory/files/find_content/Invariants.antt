use Rattle.std.proofs.Common.{◌≡◌, drop}
use Rattle.pvs_io.specs.Contents.{content_of}
use Rattle.pvs_io.specs.Memory.{file_contents}
use Rattle.pvs_io.proofs.memory.files.find_content.Given as goal

-- the files so far don't have the name
abbrev pub invariant-loop-file : goal.invariant-loop-file
invariant-loop-file l =
    content_of (file_contents (drop l.file-index l.files)) l.name ≡ content_of (file_contents l.files) l.name
