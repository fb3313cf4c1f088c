use Rattle.std.proofs.Common.{refl}
use Rattle.md_bytes.specs.Padding.{zeros}
use Rattle.md_schema.specs.Written.{table_head}
use Rattle.winmd_image.specs.Spelled.{dos_header, file_header, standard_fields, windows_fields, directories, section_header, cli_header, root_head, stream_heads, metadata}
use Rattle.sig_blobs.specs.Templates.{decimal_of}
use Rattle.winmd_sets.specs.Mix.{mix_image}
use Rattle.winmd_sets.specs.Shop.{shop_image}
use Rattle.winmd_examples.proofs.outside.images_are_by_hand.Goals as goal

pub returns-clause-size : goal.returns-clause-size
unfolding zeros table_head dos_header file_header standard_fields windows_fields directories section_header cli_header root_head stream_heads metadata
returns-clause-size c = refl

pub returns-clause-shop : goal.returns-clause-shop
unfolding decimal_of zeros table_head dos_header file_header standard_fields windows_fields directories section_header cli_header root_head stream_heads metadata shop_image
returns-clause-shop c = refl

pub returns-clause-mix : goal.returns-clause-mix
unfolding decimal_of zeros table_head dos_header file_header standard_fields windows_fields directories section_header cli_header root_head stream_heads metadata mix_image
returns-clause-mix c = refl

pub returns-clause-system : goal.returns-clause-system
unfolding zeros table_head dos_header file_header standard_fields windows_fields directories section_header cli_header root_head stream_heads metadata
returns-clause-system c = refl

pub returns-clause-system_enum : goal.returns-clause-system_enum
unfolding zeros table_head dos_header file_header standard_fields windows_fields directories section_header cli_header root_head stream_heads metadata
returns-clause-system_enum c = refl

pub returns-clause-metadata : goal.returns-clause-metadata
unfolding zeros table_head dos_header file_header standard_fields windows_fields directories section_header cli_header root_head stream_heads metadata
returns-clause-metadata c = refl

pub returns-clause-version : goal.returns-clause-version
unfolding zeros table_head dos_header file_header standard_fields windows_fields directories section_header cli_header root_head stream_heads metadata
returns-clause-version c = refl
