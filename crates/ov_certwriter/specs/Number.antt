-- The numbers of the faults of writing a certificate file.
use Rattle.std.specs.Prelude.{ℕ}
use Rattle.ov_io.specs.Device.{write_failed}
use Rattle.ov_certwriter.specs.declared.writing_fault.CertificateWriteFault.{CertificateWriteFault}
use Rattle.ov_certwriter.specs.declared.writing_fault.CertificateWriteFault.TheVariants.{Write, OutOfMemory}

-- the number of each fault
abbrev pub writing_number : CertificateWriteFault → ℕ
writing_number Write = write_failed
writing_number OutOfMemory = 99
